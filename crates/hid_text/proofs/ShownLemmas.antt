-- What is printed of layouts, values and steps has a line for each event, and no other line of an event.
use Rattle.std.proofs.Common.{◌≡◌, ℕ, zero, suc, ◌<◌, Bool, true, false, ◌&&◌, nat_le, nat_eq, cond, List, [], ◌∷◌, ◌++◌, length, map, ℤ, Option, None, Some, refl, sym, ap, ◌∙◌, subst, arith, append_assoc}
use Rattle.std.specs.Prelude.{codes, slice_get}
use Rattle.std.specs.List.{filter, cons_option}
use Rattle.std.specs.Option.{option_map}
use Rattle.std.specs.Fmt.{decimal, signed_decimal}
use Rattle.std.proofs.lemmas.List.{map-append}
use Rattle.std.proofs.lemmas.Bool.{cond_both, eqb-true}
use Rattle.hid_report_descriptor.specs.declared.collection.Collection.{Collection}
use Rattle.hid_report_descriptor.specs.declared.report.Report.{Report}
use Rattle.hid_report_descriptor.specs.declared.report.ReportKind.{ReportKind}
use Rattle.hid_report_descriptor.specs.declared.report.ReportKind.TheVariants.{Input, Output, Feature}
use Rattle.hid_report_descriptor.specs.declared.shape.Shape.{Shape}
use Rattle.hid_report_descriptor.specs.declared.shape.Shape.TheVariants.{Padding, Variable, Array}
use Rattle.hid_report_descriptor.specs.declared.usage.Usage.{Usage}
use Rattle.hid_report_descriptor.specs.Flags.{has_flag, RELATIVE, NULL_STATE}
use Rattle.hid_report_descriptor.specs.Usages.{Entry, usage_list}
use Rattle.hid_layout.specs.declared.main_item.Element.{Element}
use Rattle.hid_layout.specs.declared.main_item.MainItem.{MainItem}
use Rattle.hid_layout.specs.Layout.{Contents}
use Rattle.hid_layout.specs.Reports.{report_bytes, element_in}
use Rattle.hid_snapshots.specs.declared.event.Event.{Event}
use Rattle.hid_usages.specs.Reading.{element_number}
use Rattle.usb_control.specs.Fault.{control_code_of}
use Rattle.usb_control.specs.declared.fault.ControlFault.{ControlFault}
use Rattle.usb_control.specs.declared.fault.ControlFault.TheVariants as faults
use Rattle.usb_control.specs.declared.host.Progress.{Progress}
use Rattle.usb_control.specs.declared.host.Progress.TheVariants.{Running, Done, Failed}
use Rattle.usb_packet.specs.declared.packet.TheConstants.{MAX_PAYLOAD}
use Rattle.usb_packet.specs.declared.packet.Packet.TheVariants as packets
use Rattle.usb_packet.specs.PacketEncoding.{data_pid, pid_of}
use Rattle.usb_transact.specs.declared.host.Took.{Took}
use Rattle.usb_transact.specs.declared.host.Took.TheVariants as host
use Rattle.hid_bus.specs.declared.step.Step.{Step}
use Rattle.hid_bus.specs.declared.step.Step.TheVariants.{Change, Frame, Poll, Begin, Control, Halt, Reset}
use Rattle.hid_bus.specs.declared.step.Told.{Told}
use Rattle.hid_bus.specs.declared.step.Told.TheVariants.{Quiet, Polled, Transfer}
use Rattle.hid_bus.specs.declared.step.Delivered.{Delivered}
use Rattle.hid_bus.specs.Delivered.{from_device}
use Rattle.hid_bus.proofs.DeliveredLemmas.{from_append}
use Rattle.hid_notation.specs.Text.{bytes_text, usage_or_dash, range_text, concat_below}
use Rattle.hid_text.specs.EventLines.{HaveOneDigit, ShowsEvents, is_event_line, event_lines}
use Rattle.hid_text.specs.EventText.{event_text}
use Rattle.hid_text.specs.LayoutText.{kind_word, report_name, report_line, shape_word, range_words, entries_text, details_text, collection_text, path_text, item_head, item_line, report_text_at, item_in, item_text_at, layout_lines, layout_text}
use Rattle.hid_text.specs.PollText.{reply_at, reply_words, reply_text, verdict_word, poll_text}
use Rattle.hid_text.specs.StepText.{result_text, events_text, step_text}
use Rattle.hid_text.specs.TransferText.{progress_words, progress_text, transfer_text}
use Rattle.hid_text.specs.ValuesText.{usage_shown, value_line, element_line, value_text_in, value_at, values_in, values_at, values_text}
use Rattle.hid_text.proofs.EventLineLemmas.{event_is_of, has_word, other_start, other_word}
use Rattle.hid_text.proofs.LineLemmas.{plain_first}
use Rattle.hid_text.proofs.PlainLemmas.{is_plain, plain_both, plain_flat, plain_decimal, plain_signed, plain_bytes, plain_usage_or_dash, plain_range, plain_event}

pub shows_nothing : ShowsEvents [] []
shows_nothing dev rest = refl

pub shows_both : (a b : List ℕ) (xs ys : List Delivered) → ShowsEvents a xs → ShowsEvents b ys → ShowsEvents (a ++ b) (xs ++ ys)
shows_both a b xs ys h k dev rest =
    let shown = event_text dev in
    ap (event_lines dev) (append_assoc a b rest) ∙ h dev (b ++ rest)
    ∙ ap (λ l. map shown (from_device dev xs) ++ l) (k dev rest)
    ∙ sym (append_assoc (map shown (from_device dev xs)) (map shown (from_device dev ys)) (event_lines dev rest))
    ∙ ap (λ l. l ++ event_lines dev rest) (sym (map-append shown (from_device dev xs) (from_device dev ys)) ∙ ap (map shown) (sym (from_append dev xs ys)))

-- ---- one line

first_is : (dev : ℕ) (body rest : List ℕ) → is_plain body ≡ true
    → event_lines dev ((body ++ 10 ∷ []) ++ rest) ≡ cond (is_event_line dev body) (body ∷ event_lines dev rest) (event_lines dev rest)
first_is dev body rest h = ap (event_lines dev) (append_assoc body (10 ∷ []) rest) ∙ ap (filter (is_event_line dev)) (plain_first body rest h)

quiet_line : (body : List ℕ) → is_plain body ≡ true → ((dev : ℕ) → is_event_line dev body ≡ false) → ShowsEvents (body ++ 10 ∷ []) []
quiet_line body plain none dev rest = first_is dev body rest plain ∙ ap (λ b. cond b (body ∷ event_lines dev rest) (event_lines dev rest)) (none dev)

-- it begins with no digit
starts_with : (c : ℕ) (body : List ℕ) → 57 < c → is_plain (c ∷ body) ≡ true → ShowsEvents ((c ∷ body) ++ 10 ∷ []) []
starts_with c body above plain = quiet_line (c ∷ body) plain (λ dev. other_start dev c body above)

-- another word stands after the number
has_other_word : (d : ℕ) (tail body : List ℕ) → body ≡ decimal d ++ 32 ∷ tail → is_plain tail ≡ true → has_word tail ≡ false → ShowsEvents (body ++ 10 ∷ []) []
has_other_word d tail body is plain none =
    subst (λ l. ShowsEvents (l ++ 10 ∷ []) []) (sym is)
    (quiet_line (decimal d ++ 32 ∷ tail) (plain_both (decimal d) (32 ∷ tail) (plain_decimal d) plain) (λ dev. other_word dev d tail none))

-- ---- events

by_number : (dev d : ℕ) (event : Event) (more : List (List ℕ)) (b : Bool) → nat_eq d dev ≡ b
    → cond b (event_text d event ∷ more) more ≡ map (event_text dev) (cons_option (cond b (Some event) None) []) ++ more
by_number dev d event more true e = ap (λ n. event_text n event ∷ more) (eqb-true d dev e)
by_number dev d event more false e = refl

shows_event : (d : Delivered) → d.dev < 10 → ShowsEvents (event_text d.dev d.event ++ 10 ∷ []) (d ∷ [])
shows_event d few dev rest =
    first_is dev (event_text d.dev d.event) rest (plain_event d.dev d.event)
    ∙ ap (λ b. cond b (event_text d.dev d.event ∷ event_lines dev rest) (event_lines dev rest)) (event_is_of dev d.dev d.event few)
    ∙ by_number dev d.dev d.event (event_lines dev rest) (nat_eq d.dev dev) refl

shows_events : (ds : List Delivered) → HaveOneDigit ds → ShowsEvents (events_text ds) ds
shows_events [] few = shows_nothing
shows_events (d ∷ ds) few = shows_both (event_text d.dev d.event ++ 10 ∷ []) (events_text ds) (d ∷ []) ds (shows_event d few.0) (shows_events ds few.1)

-- ---- layouts and values

shows_joined : (n : ℕ) (text : ℕ → List ℕ) → ((i : ℕ) → ShowsEvents (text i) [])
    → ShowsEvents (concat_below n text) []
shows_joined zero text h = shows_nothing
shows_joined (suc n) text h = shows_both (concat_below n text) (text n) [] [] (shows_joined n text h) (h n)

plain_kind : (kind : ReportKind) → is_plain (kind_word kind) ≡ true
plain_kind Input = refl
plain_kind Output = refl
plain_kind Feature = refl

plain_name : (report : Report) → is_plain (report_name report) ≡ true
plain_name report = plain_both (kind_word report.kind) (32 ∷ decimal report.id) (plain_kind report.kind) (plain_decimal report.id)

shows_report : (report : Report) (size : ℕ) → ShowsEvents (report_line report size) []
shows_report report size =
    let name = report_name report in
    starts_with 114 (codes "eport " ++ name ++ codes " bytes " ++ decimal size) (omega arith)
    (plain_both (name ++ codes " bytes ") (decimal size) (plain_both name (codes " bytes ") (plain_name report) refl) (plain_decimal size))

plain_shape : (shape : Shape) (relative : Bool) → is_plain (shape_word shape relative) ≡ true
plain_shape Padding relative = refl
plain_shape Array relative = refl
plain_shape Variable true = refl
plain_shape Variable false = refl

plain_null : (b : Bool) → is_plain (cond b (codes " null") []) ≡ true
plain_null true = refl
plain_null false = refl

plain_limits : (item : MainItem) → is_plain (range_words item) ≡ true
plain_limits item =
    let null = cond (has_flag NULL_STATE item.flags.0) (codes " null") [] in
    let least = 32 ∷ signed_decimal item.min in
    plain_both (null ++ least ++ codes "..") (signed_decimal item.max)
    (plain_both (null ++ least) (codes "..") (plain_both null least (plain_null (has_flag NULL_STATE item.flags.0)) (plain_signed item.min)) refl) (plain_signed item.max)

plain_entries : (entries : List Entry) → is_plain (entries_text entries) ≡ true
plain_entries entries = plain_flat (λ entry. 32 ∷ range_text entry) entries (λ entry. plain_range entry)

plain_details : (shape : Shape) (item : MainItem) (entries : List Entry) → is_plain (details_text shape item entries) ≡ true
plain_details Padding item entries = refl
plain_details Variable item entries = plain_both (range_words item) (entries_text entries) (plain_limits item) (plain_entries entries)
plain_details Array item entries = plain_both (range_words item) (entries_text entries) (plain_limits item) (plain_entries entries)

plain_collection : (c : Collection) → is_plain (collection_text c) ≡ true
plain_collection c = plain_both (decimal c.kind) (47 ∷ usage_or_dash c.usage) (plain_decimal c.kind) (plain_usage_or_dash c.usage)

plain_path : (path : List Collection) → is_plain (path_text path) ≡ true
plain_path [] = refl
plain_path (c ∷ inner) = plain_flat (λ c. 32 ∷ collection_text c) (c ∷ inner) (λ c. plain_collection c)

plain_head : (i : ℕ) (report : Report) (item : MainItem) → is_plain (item_head i report item) ≡ true
unfolding item_head
plain_head i report item =
    let name = 32 ∷ report_name report in
    let offset = decimal item.offset in
    let size = 32 ∷ decimal item.size in
    let count = 120 ∷ decimal item.count in
    let shape = 32 ∷ shape_word item.shape (has_flag RELATIVE item.flags.0) in
    let number = codes "item " ++ decimal i in
    plain_both (number ++ name ++ codes " at " ++ offset ++ size ++ count) shape
    (plain_both (number ++ name ++ codes " at " ++ offset ++ size) count
    (plain_both (number ++ name ++ codes " at " ++ offset) size
    (plain_both (number ++ name ++ codes " at ") offset
    (plain_both (number ++ name) (codes " at ")
    (plain_both number name (plain_decimal i) (plain_name report)) refl)
    (plain_decimal item.offset)) (plain_decimal item.size)) (plain_decimal item.count)) (plain_shape item.shape (has_flag RELATIVE item.flags.0))

starts_as_item : (dev i : ℕ) (report : Report) (item : MainItem) (details path : List ℕ) → is_event_line dev (item_head i report item ++ details ++ path) ≡ false
unfolding item_head
starts_as_item dev i report item details path =
    let shape = shape_word item.shape (has_flag RELATIVE item.flags.0) in
    other_start dev 105 (codes "tem " ++ decimal i ++ 32 ∷ report_name report ++ codes " at " ++ decimal item.offset
    ++ 32 ∷ decimal item.size ++ 120 ∷ decimal item.count ++ 32 ∷ shape ++ details ++ path) (omega arith)

shows_item : (i : ℕ) (report : Report) (item : MainItem) (entries : List Entry) (path : List Collection) → ShowsEvents (item_line i report item entries path) []
shows_item i report item entries path =
    let head = item_head i report item in
    let details = details_text item.shape item entries in
    quiet_line (head ++ details ++ path_text path)
    (plain_both (head ++ details) (path_text path) (plain_both head details (plain_head i report item) (plain_details item.shape item entries)) (plain_path path))
    (λ dev. starts_as_item dev i report item details (path_text path))

shows_report_at : (layout : Contents) (r : ℕ) (o : Option Report) → ShowsEvents (report_text_at layout r o) []
shows_report_at layout r None = shows_nothing
shows_report_at layout r (Some report) = shows_report report (report_bytes layout r)

shows_item_in : (layout : Contents) (i : ℕ) (item : MainItem) (report : Option Report) (entries : Option (List Entry)) (path : Option (List Collection)) → ShowsEvents (item_in layout i item report entries path) []
shows_item_in layout i item (Some report) (Some entries) (Some path) = shows_item i report item entries path
shows_item_in layout i item None entries path = shows_nothing
shows_item_in layout i item (Some report) None path = shows_nothing
shows_item_in layout i item (Some report) (Some entries) None = shows_nothing

shows_item_at : (layout : Contents) (i : ℕ) (o : Option MainItem) → ShowsEvents (item_text_at layout i o) []
shows_item_at layout i None = shows_nothing
shows_item_at layout i (Some item) = shows_item_in layout i item (slice_get layout.reports item.report) (slice_get layout.entries i) (slice_get layout.paths i)

shows_lines : (layout : Contents) → ShowsEvents (layout_lines layout) []
unfolding layout_lines
shows_lines layout =
    shows_both (concat_below (length layout.reports) (λ r. report_text_at layout r (slice_get layout.reports r)))
    (concat_below (length layout.items) (λ i. item_text_at layout i (slice_get layout.items i))) [] []
    (shows_joined (length layout.reports) (λ r. report_text_at layout r (slice_get layout.reports r))
    (λ r. shows_report_at layout r (slice_get layout.reports r)))
    (shows_joined (length layout.items) (λ i. item_text_at layout i (slice_get layout.items i))
    (λ i. shows_item_at layout i (slice_get layout.items i)))

pub shows_layout : (layout : Contents) → ShowsEvents (layout_text layout) []
unfolding layout_text
shows_layout layout =
    cond_both (nat_eq (length layout.reports) 0) (codes "no reports" ++ 10 ∷ []) (layout_lines layout) (λ t. ShowsEvents t [])
    (λ _. starts_with 110 (codes "o reports") (omega arith) refl) (λ _. shows_lines layout)

shows_value : (i j : ℕ) (number : ℤ) (usage : Option Usage) → ShowsEvents (value_line i j number usage) []
unfolding value_line
shows_value i j number usage =
    let first = decimal i in
    let second = 46 ∷ decimal j in
    let shown = 32 ∷ signed_decimal number in
    let last = 32 ∷ usage_or_dash usage in
    starts_with 118 (codes "alue " ++ first ++ second ++ shown ++ last) (omega arith)
    (plain_both (first ++ second ++ shown) last
    (plain_both (first ++ second) shown (plain_both first second (plain_decimal i) (plain_decimal j)) (plain_signed number)) (plain_usage_or_dash usage))

shows_element : (layout : Contents) (bytes : List ℕ) (i j : ℕ) (item : MainItem) (usages : List Usage) (o : Option Element) → ShowsEvents (element_line layout bytes i j item usages o) []
shows_element layout bytes i j item usages None = shows_nothing
shows_element layout bytes i j item usages (Some element) =
    let number = element_number layout bytes element in shows_value i j number (usage_shown item.shape item usages j number)

shows_value_in : (layout : Contents) (bytes : List ℕ) (i j : ℕ) (o : Option MainItem) (entries : Option (List Entry))
    → ShowsEvents (value_text_in layout bytes i j o entries) []
shows_value_in layout bytes i j (Some item) (Some entries) = shows_element layout bytes i j item (usage_list entries) (element_in item j)
shows_value_in layout bytes i j None entries = shows_nothing
shows_value_in layout bytes i j (Some item) None = shows_nothing

shows_value_at : (layout : Contents) (bytes : List ℕ) (i j : ℕ) → ShowsEvents (value_at layout bytes i j) []
unfolding value_at
shows_value_at layout bytes i j = shows_value_in layout bytes i j (slice_get layout.items i) (slice_get layout.entries i)

shows_values_in : (layout : Contents) (r : ℕ) (bytes : List ℕ) (i : ℕ) (o : Option MainItem) → ShowsEvents (values_in layout r bytes i o) []
shows_values_in layout r bytes i None = shows_nothing
shows_values_in layout r bytes i (Some item) =
    cond_both (nat_eq item.report r) (concat_below item.count (value_at layout bytes i)) [] (λ t. ShowsEvents t [])
    (λ _. shows_joined item.count (value_at layout bytes i) (shows_value_at layout bytes i)) (λ _. shows_nothing)

shows_values_at : (layout : Contents) (r : ℕ) (bytes : List ℕ) (i : ℕ) → ShowsEvents (values_at layout r bytes i) []
unfolding values_at
shows_values_at layout r bytes i = shows_values_in layout r bytes i (slice_get layout.items i)

pub shows_values : (layout : Contents) (r : ℕ) (bytes : List ℕ) → ShowsEvents (values_text layout r bytes) []
unfolding values_text
shows_values layout r bytes = shows_joined (length layout.items) (values_at layout r bytes) (shows_values_at layout r bytes)

-- ---- steps

plain_reply_at : (first : ℕ) (body : List ℕ) → is_plain (reply_at first body) ≡ true
unfolding reply_at
plain_reply_at first body =
    let few = nat_le (length body) MAX_PAYLOAD in
    let none = nat_eq (length body) 0 in
    let stall = cond (nat_eq first (pid_of packets.Stall) && none) (codes "STALL") (codes "none") in
    let nak = cond (nat_eq first (pid_of packets.Nak) && none) (codes "NAK") stall in
    let odd = cond (nat_eq first (data_pid true) && few) (codes "DATA1" ++ bytes_text body) nak in
    cond_both (nat_eq first (data_pid false) && few) (codes "DATA0" ++ bytes_text body) odd (λ l. is_plain l ≡ true) (λ _. plain_bytes body)
    (λ _. cond_both (nat_eq first (data_pid true) && few) (codes "DATA1" ++ bytes_text body) nak (λ l. is_plain l ≡ true) (λ _. plain_bytes body)
    (λ _. cond_both (nat_eq first (pid_of packets.Nak) && none) (codes "NAK") stall (λ l. is_plain l ≡ true) (λ _. refl)
    (λ _. cond_both (nat_eq first (pid_of packets.Stall) && none) (codes "STALL") (codes "none") (λ l. is_plain l ≡ true) (λ _. refl) (λ _. refl))))

plain_reply_words : (bytes : List ℕ) → is_plain (reply_words bytes) ≡ true
plain_reply_words [] = refl
plain_reply_words (first ∷ body) = plain_reply_at first body

plain_reply : (reply : Option (List ℕ)) → is_plain (reply_text reply) ≡ true
plain_reply None = refl
plain_reply (Some bytes) = plain_reply_words bytes

plain_verdict : (took : Took) → is_plain (verdict_word took) ≡ true
plain_verdict (host.Fresh bytes) = refl
plain_verdict host.Again = refl
plain_verdict host.Nak = refl
plain_verdict host.Stall = refl
plain_verdict host.Silent = refl

shows_poll : (dev : ℕ) (reply : Option (List ℕ)) (took : Took) → ShowsEvents (poll_text dev reply took) []
unfolding poll_text
shows_poll dev reply took =
    let number = decimal dev in
    let said = reply_text reply in
    let verdict = 32 ∷ verdict_word took in
    has_other_word dev (codes "poll " ++ said ++ verdict) (number ++ codes " poll " ++ said ++ verdict)
    (ap (λ l. l ++ verdict) (append_assoc number (codes " poll ") said) ∙ append_assoc number (codes " poll " ++ said) verdict)
    (plain_both said verdict (plain_reply reply) (plain_verdict took)) refl

plain_code : (fault : ControlFault) → is_plain (control_code_of fault) ≡ true
plain_code faults.Stalled = refl
plain_code faults.BusFault = refl
plain_code faults.Overrun = refl
plain_code faults.NoTransfer = refl
plain_code faults.Busy = refl
plain_code faults.Memory = refl

plain_progress : (progress : Progress) (got : List ℕ) → is_plain (progress_words progress got) ≡ true
plain_progress Running got = refl
plain_progress Done got = plain_bytes got
plain_progress (Failed fault) got = plain_code fault

shows_progress : (dev : ℕ) (progress : Progress) (got : List ℕ) → ShowsEvents (progress_text dev progress got) []
shows_progress dev progress got =
    let words = progress_words progress got in
    has_other_word dev (codes "control " ++ words) (decimal dev ++ codes " control " ++ words) (append_assoc (decimal dev) (codes " control ") words) (plain_progress progress got) refl

shows_transfer : (trace : Bool) (dev : ℕ) (progress : Progress) (got : List ℕ) → ShowsEvents (transfer_text trace dev progress got) []
unfolding transfer_text
shows_transfer true dev Running got = shows_progress dev Running got
shows_transfer false dev Running got = shows_nothing
shows_transfer trace dev Done got = shows_progress dev Done got
shows_transfer trace dev (Failed fault) got = shows_progress dev (Failed fault) got

shows_told : (trace : Bool) (step : Step) (told : Told) (got : List ℕ)
    → ShowsEvents (result_text trace step told got) []
shows_told true (Poll dev fate) (Polled reply took) got = shows_poll dev (option_map (λ bytes. bytes.items) reply) took
shows_told false (Poll dev fate) (Polled reply took) got = shows_nothing
shows_told trace (Poll dev fate) Quiet got = shows_nothing
shows_told trace (Poll dev fate) (Transfer progress) got = shows_nothing
shows_told trace (Control dev fate) (Transfer progress) got = shows_transfer trace dev progress got
shows_told trace (Control dev fate) Quiet got = shows_nothing
shows_told trace (Control dev fate) (Polled reply took) got = shows_nothing
shows_told trace (Change dev change) told got = shows_nothing
shows_told trace Frame told got = shows_nothing
shows_told trace (Begin dev request) told got = shows_nothing
shows_told trace (Reset dev) told got = shows_nothing
shows_told trace (Halt dev) told got = shows_nothing

pub shows_step : (trace : Bool) (step : Step) (told : Told) (got : List ℕ) (delivered : List Delivered) → HaveOneDigit delivered → ShowsEvents (step_text trace step told got delivered) delivered
unfolding step_text
shows_step trace step told got delivered few =
    shows_both (result_text trace step told got) (events_text delivered) [] delivered (shows_told trace step told got)
    (shows_events delivered few)
