-- What holds of the interfaces of a driver, and how a call changes one of them.
use Rattle.std.proofs.Common.{◌≡◌, ℕ, ◌+◌, ◌<◌, ◌≤◌, refl, sym, ◌∙◌, ap, subst, List, [], ◌∷◌, ◌++◌, length, get_or, take, drop, map, Option, Some, None, arith, append_assoc}
use Rattle.std.specs.Prelude.{slice_get, slice_set}
use Rattle.std.proofs.lemmas.List.{drop_more, set-get_or}
use Rattle.std.proofs.lemmas.Option.{get_or_from_slice_get, slice_get_read, slice_get_within}
use Rattle.std.proofs.lemmas.List.Elements.{All-cons, All-get_or, All-nil, All-set, All-weaker}
use Rattle.std.proofs.lemmas.List.Sums.{get_or-le-sum_by, sum_by-le, sum_by-set, sum_by_more, sum_by_more_le}
use Rattle.hid_layout.specs.Layout.{Contents}
use Rattle.hid_layout.specs.Controls.{items_of, max_events}
use Rattle.hid_interfaces.specs.declared.fault.InterfaceFault.{InterfaceFault}
use Rattle.hid_interfaces.specs.declared.interface.InterfaceInfo.{InterfaceInfo}
use Rattle.hid_interfaces.specs.Readable.{interface_fault, readable_with}
use Rattle.hid_driver.specs.declared.interface.Interface.{Interface}
use Rattle.hid_driver.specs.declared.interface.Reading.{Reading}
use Rattle.hid_driver.specs.declared.interface.Reading.TheVariants.{Waiting, Open, Boot, Refused}
use Rattle.hid_driver.specs.declared.outcome.DriverEvent.{DriverEvent}
use Rattle.hid_driver.specs.declared.outcome.Outcome.{Outcome}
use Rattle.hid_driver.specs.declared.pipe.Flow.{Flow}
use Rattle.hid_driver.specs.Driver.{interface_after_outcome}
use Rattle.hid_driver.specs.Interfaces.{AllFitRoom, AreUnread, FitsRoom, HasNoLonger, SetsReading, all_back_events, back_events, event_room, interface_listed, interfaces_after, pipe_of, reading_after_outcome, reading_by_fault, reading_room, total_room, reading_with_flow}
use Rattle.hid_driver.specs.Pipe.{event_of}
use Rattle.hid_driver.proofs.PipeLemmas.{heard_layout}

-- a transfer leaves the room that an interface needs, and so does a halt
pub heard_room : (reading : Reading) (outcome : Outcome) → reading_room (reading_after_outcome reading outcome) ≡ reading_room reading
heard_room Waiting outcome = refl
heard_room (Open pipe) outcome = ap (λ (layout : Contents). max_events (items_of layout)) (heard_layout pipe outcome)
heard_room Boot outcome = refl
heard_room (Refused cause) outcome = refl

pub flow_room : (flow : Flow) (reading : Reading) → reading_room (reading_with_flow flow reading) ≡ reading_room reading
flow_room flow Waiting = refl
flow_room flow (Open pipe) = refl
flow_room flow Boot = refl
flow_room flow (Refused cause) = refl

pub heard_fits : (room : ℕ) (reading : Reading) (outcome : Outcome) → FitsRoom room reading → FitsRoom room (reading_after_outcome reading outcome)
heard_fits room Waiting outcome fits = fits
heard_fits room (Open pipe) outcome fits = subst (HasNoLonger room) (sym (heard_layout pipe outcome)) fits
heard_fits room Boot outcome fits = fits
heard_fits room (Refused cause) outcome fits = fits

pub flow_fits : (room : ℕ) (flow : Flow) (reading : Reading) → FitsRoom room reading → FitsRoom room (reading_with_flow flow reading)
flow_fits room flow Waiting fits = fits
flow_fits room flow (Open pipe) fits = fits
flow_fits room flow Boot fits = fits
flow_fits room flow (Refused cause) fits = fits

-- more room fits too
fits_more : (few room : ℕ) → few ≤ room → (reading : Reading) → FitsRoom few reading → FitsRoom room reading
fits_more few room more Waiting fits = tt
fits_more few room more (Open pipe) fits = λ r within. let h = fits r within in omega arith
fits_more few room more Boot fits = tt
fits_more few room more (Refused cause) fits = tt

pub all_fit_more : (few room : ℕ) (interfaces : List Interface) → few ≤ room → AllFitRoom few interfaces → AllFitRoom room interfaces
all_fit_more few room interfaces more fit =
    All-weaker (λ (i : Interface). FitsRoom few i.reading) (λ (i : Interface). FitsRoom room i.reading)
    (λ i. fits_more few room more i.reading) interfaces fit

-- one interface is changed: its room, and that of all
pub set_total : (interfaces : List Interface) (place : ℕ) (new old : Interface) → place < length interfaces
    → old ≡ get_or interfaces place old
    → total_room (slice_set interfaces place new) + event_room old ≡ total_room interfaces + event_room new
set_total interfaces place new old within is =
    ap (λ (i : Interface). total_room (slice_set interfaces place new) + event_room i) is
    ∙ sum_by-set event_room interfaces place new old within

pub set_fits : (room : ℕ) (interfaces : List Interface) (place : ℕ) (new : Interface) → FitsRoom room new.reading
    → AllFitRoom room interfaces → AllFitRoom room (slice_set interfaces place new)
set_fits room interfaces place new fits all = All-set (λ (i : Interface). FitsRoom room i.reading) interfaces place new fits all

-- what holds of all holds of one
pub fits_at : (room : ℕ) (interfaces : List Interface) (place : ℕ) (old : Interface) → place < length interfaces
    → old ≡ get_or interfaces place old → AllFitRoom room interfaces → FitsRoom room old.reading
fits_at room interfaces place old within is all =
    subst (λ (i : Interface). FitsRoom room i.reading) (sym is) (All-get_or (λ (i : Interface). FitsRoom room i.reading) interfaces place old within all)

pub room_at : (interfaces : List Interface) (place : ℕ) (old : Interface) → place < length interfaces
    → old ≡ get_or interfaces place old → event_room old ≤ total_room interfaces
room_at interfaces place old within is =
    let part = get_or-le-sum_by event_room interfaces place old within in
    let same : event_room (get_or interfaces place old) ≡ event_room old = ap event_room (sym is) in
    omega arith

-- interfaces of which no report descriptor was read need no room
pub unread_room : (reading : Reading) → pipe_of reading ≡ None → reading_room reading ≤ 0
unread_room Waiting none = omega arith
unread_room (Open pipe) none = cc
unread_room Boot none = omega arith
unread_room (Refused cause) none = omega arith

pub unread_fits : (room : ℕ) (reading : Reading) → pipe_of reading ≡ None → FitsRoom room reading
unread_fits room Waiting none = tt
unread_fits room (Open pipe) none = cc
unread_fits room Boot none = tt
unread_fits room (Refused cause) none = tt

pub unread_total : (interfaces : List Interface) → AreUnread interfaces → total_room interfaces ≡ 0
unread_total interfaces unread =
    let none = sum_by-le event_room 0 interfaces (All-weaker (λ (i : Interface). pipe_of i.reading ≡ None) (λ (i : Interface). event_room i ≤ 0)
    (λ i. unread_room i.reading) interfaces unread) in
    omega (arith, none)

pub unread_all_fit : (room : ℕ) (interfaces : List Interface) → AreUnread interfaces → AllFitRoom room interfaces
unread_all_fit room interfaces unread =
    All-weaker (λ (i : Interface). pipe_of i.reading ≡ None) (λ (i : Interface). FitsRoom room i.reading)
    (λ i. unread_fits room i.reading) interfaces unread

by_fault_unread : (fault : Option InterfaceFault) → pipe_of (reading_by_fault fault) ≡ None
by_fault_unread None = refl
by_fault_unread (Some fault) = refl

pub listed_unread : (earlier infos : List InterfaceInfo) → AreUnread (interfaces_after earlier infos)
listed_unread earlier [] = All-nil (λ (i : Interface). pipe_of i.reading ≡ None)
listed_unread earlier (info ∷ infos) =
    All-cons (λ (i : Interface). pipe_of i.reading ≡ None) (interface_listed earlier info) (interfaces_after (readable_with earlier info) infos)
    (by_fault_unread (interface_fault earlier info)) (listed_unread (readable_with earlier info) infos)

-- one more interface is listed
pub listed_more : (infos : List InterfaceInfo) (i : ℕ) (info : InterfaceInfo) (readable later : List InterfaceInfo) (before now all : List Interface)
    → i < length infos → info ≡ get_or infos i info
    → before ++ interfaces_after readable (drop i infos) ≡ all
    → now ≡ before ++ interface_listed readable info ∷ [] → later ≡ readable_with readable info
    → now ++ interfaces_after later (drop (i + 1) infos) ≡ all
listed_more infos i info readable later before now all within is held pushed read =
    let back : drop i infos ≡ info ∷ drop (i + 1) infos =
    drop_more infos i info within ∙ ap (λ (x : InterfaceInfo). x ∷ drop (i + 1) infos) (sym is) in
    let split : interfaces_after readable (drop i infos) ≡ interface_listed readable info ∷ interfaces_after later (drop (i + 1) infos) =
    ap (interfaces_after readable) back
    ∙ ap (λ (xs : List InterfaceInfo). interface_listed readable info ∷ interfaces_after xs (drop (i + 1) infos)) (sym read) in
    ap (λ (xs : List Interface). xs ++ interfaces_after later (drop (i + 1) infos)) pushed
    ∙ append_assoc before (interface_listed readable info ∷ []) (interfaces_after later (drop (i + 1) infos))
    ∙ ap (λ (xs : List Interface). before ++ xs) (sym split) ∙ held

-- one more interface is released
pub released_more : (interfaces : List Interface) (i : ℕ) (interface : Interface) (out before now all : List DriverEvent) → i < length interfaces
    → interface ≡ get_or interfaces i interface
    → before ++ all_back_events i (drop i interfaces) ≡ all
    → now ≡ before ++ map (event_of i) (back_events interface.reading)
    → now ++ all_back_events (i + 1) (drop (i + 1) interfaces) ≡ all
released_more interfaces i interface out before now all within is held pushed =
    let back : drop i interfaces ≡ interface ∷ drop (i + 1) interfaces =
    drop_more interfaces i interface within ∙ ap (λ (x : Interface). x ∷ drop (i + 1) interfaces) (sym is) in
    ap (λ (es : List DriverEvent). es ++ all_back_events (i + 1) (drop (i + 1) interfaces)) pushed
    ∙ append_assoc before (map (event_of i) (back_events interface.reading)) (all_back_events (i + 1) (drop (i + 1) interfaces))
    ∙ ap (λ (xs : List Interface). before ++ all_back_events i xs) (sym back) ∙ held

-- an interface that is released stays
pub released_stays : (xs ys : List Interface) (place : ℕ) (interface new : Interface) → xs ≡ ys → interface ≡ get_or xs place interface → new ≡ interface
    → slice_set xs place new ≡ ys
released_stays xs ys place interface new same is stays =
    ap (λ (i : Interface). slice_set xs place i) (stays ∙ is) ∙ set-get_or xs place interface ∙ same

-- there is room for the events of the next one
pub released_room : (interfaces : List Interface) (place : ℕ) (interface : Interface) → place < length interfaces
    → interface ≡ get_or interfaces place interface → total_room (take place interfaces) + event_room interface ≤ total_room interfaces
released_room interfaces place interface within is =
    let part = sum_by_more_le event_room interfaces place interface within in
    let same : event_room (get_or interfaces place interface) ≡ event_room interface = ap event_room (sym is) in
    omega arith

pub released_sum : (interfaces : List Interface) (place : ℕ) (interface : Interface) → place < length interfaces
    → interface ≡ get_or interfaces place interface → total_room (take (place + 1) interfaces) ≡ total_room (take place interfaces) + event_room interface
released_sum interfaces place interface within is =
    sum_by_more event_room interfaces place interface within
    ∙ ap (λ (i : Interface). total_room (take place interfaces) + event_room i) (sym is)

-- one interface is read, or refused
pub sets_reading : (interfaces : List Interface) (place : ℕ) (reading : Reading) (old new : Interface) → place < length interfaces
    → old ≡ get_or interfaces place old → new ≡ record old { reading = reading } → SetsReading place reading interfaces (slice_set interfaces place new)
sets_reading interfaces place reading old new within is after =
    (old, slice_get_read interfaces (length interfaces) place old refl within is, ap (slice_set interfaces place) after)

-- an interface that is settled needs the room of its new reading in place of the old one
pub settled_total : (place : ℕ) (reading : Reading) (xs ys : List Interface) (old : Interface) (most : ℕ) → SetsReading place reading xs ys
    → old ≡ get_or xs place old → most + event_room old ≡ total_room xs + reading_room reading → total_room ys ≡ most
settled_total place reading xs ys old most sets is room =
    let within : place < length xs = slice_get_within xs place sets.0 sets.1 in
    let same : sets.0 ≡ old = sym (get_or_from_slice_get xs place sets.0 old sets.1) ∙ sym is in
    let new : Interface = record sets.0 { reading = reading } in
    let sums : total_room (slice_set xs place new) + event_room old ≡ total_room xs + event_room new = set_total xs place new old within is in
    let all : total_room ys ≡ total_room (slice_set xs place new) = ap total_room sets.2 in
    omega (arith, sums, all, room)

pub settled_fits : (room place : ℕ) (reading : Reading) (xs ys : List Interface) → SetsReading place reading xs ys
    → AllFitRoom room xs → FitsRoom room reading → AllFitRoom room ys
settled_fits room place reading xs ys sets all fits =
    subst (λ (zs : List Interface). AllFitRoom room zs) (sym sets.2) (set_fits room xs place (record sets.0 { reading = reading }) fits all)

-- one interface is changed, and needs as much room as before
pub kept_room : (xs : List Interface) (place : ℕ) (old new : Interface) → place < length xs → old ≡ get_or xs place old
    → reading_room new.reading ≡ reading_room old.reading → total_room (slice_set xs place new) ≡ total_room xs
kept_room xs place old new within is same =
    let room = set_total xs place new old within is in omega (arith, room, same)

pub kept_fits : (room : ℕ) (xs : List Interface) (place : ℕ) (old new : Interface) → place < length xs → old ≡ get_or xs place old
    → (FitsRoom room old.reading → FitsRoom room new.reading) → AllFitRoom room xs → AllFitRoom room (slice_set xs place new)
kept_fits room xs place old new within is goes all =
    set_fits room xs place new (goes (fits_at room xs place old within is all)) all

-- an interface that took a transfer, and one whose endpoint is halted or not
pub heard_total : (xs : List Interface) (place : ℕ) (old new : Interface) (outcome : Outcome) → place < length xs → old ≡ get_or xs place old
    → new ≡ interface_after_outcome old outcome → total_room (slice_set xs place new) ≡ total_room xs
heard_total xs place old new outcome within is after =
    kept_room xs place old new within is (ap (λ (i : Interface). reading_room i.reading) after ∙ heard_room old.reading outcome)

pub heard_all_fit : (room : ℕ) (xs : List Interface) (place : ℕ) (old new : Interface) (outcome : Outcome) → place < length xs → old ≡ get_or xs place old
    → new ≡ interface_after_outcome old outcome → AllFitRoom room xs → AllFitRoom room (slice_set xs place new)
heard_all_fit room xs place old new outcome within is after =
    kept_fits room xs place old new within is
    (λ fits. subst (λ (i : Interface). FitsRoom room i.reading) (sym after) (heard_fits room old.reading outcome fits))

pub flow_total : (xs : List Interface) (place : ℕ) (old new : Interface) (flow : Flow) → place < length xs → old ≡ get_or xs place old
    → new ≡ record old { reading = reading_with_flow flow old.reading } → total_room (slice_set xs place new) ≡ total_room xs
flow_total xs place old new flow within is after =
    kept_room xs place old new within is (ap (λ (i : Interface). reading_room i.reading) after ∙ flow_room flow old.reading)

pub flow_all_fit : (room : ℕ) (xs : List Interface) (place : ℕ) (old new : Interface) (flow : Flow) → place < length xs → old ≡ get_or xs place old
    → new ≡ record old { reading = reading_with_flow flow old.reading } → AllFitRoom room xs → AllFitRoom room (slice_set xs place new)
flow_all_fit room xs place old new flow within is after =
    kept_fits room xs place old new within is
    (λ fits. subst (λ (i : Interface). FitsRoom room i.reading) (sym after) (flow_fits room flow old.reading fits))

-- the interface at a place, as a list shows it
pub shown_at : (xs ys : List Interface) (place : ℕ) (old : Interface) → xs ≡ ys → place < length xs → old ≡ get_or xs place old
    → slice_get ys place ≡ Some old
shown_at xs ys place old same within is =
    subst (λ (zs : List Interface). slice_get zs place ≡ Some old) same (slice_get_read xs (length xs) place old refl within is)

-- the reports of an interface fit the room that is made for the longest one
pub made_fits : (reports : ℕ) (lengths : ℕ → ℕ) (longest before room : ℕ) → ((r : ℕ) → r < reports → lengths r ≤ longest) → before + longest ≤ room
    → (r : ℕ) → r < reports → lengths r ≤ room
made_fits reports lengths longest before room all made r within = let h = all r within in omega (arith, h, made)
