-- Ends ends stand where the tries of a transfer lead, whatever comes between them.
use Rattle.std.proofs.Common.{◌≡◌, ℕ, Bool, true, false, List, [], ◌∷◌, Option, Some, None, refl, ap, sym, ◌∙◌, subst, inl, inr}
use Rattle.std.specs.Prelude.{if◌then◌else◌, ◌*◌, ◌+◌}
use Rattle.std.proofs.lemmas.Bool.{cases_Bool}
use Rattle.usb_transact.specs.declared.transaction.Fate.{Fate}
use Rattle.usb_transact.specs.declared.transaction.Fate.TheVariants.{Clean, TokenLost, ReplyLost, AckLost}
use Rattle.usb_control.specs.declared.setup.Setup.{Setup as Request}
use Rattle.usb_control.specs.declared.fault.ControlFault.{ControlFault}
use Rattle.usb_control.specs.declared.host.HostStage.{HostStage}
use Rattle.usb_control.specs.declared.host.HostStage.TheVariants as stages
use Rattle.usb_control.specs.declared.device.LastPacket.{LastPacket}
use Rattle.usb_control.specs.declared.device.LastPacket.TheVariants as last_packets
use Rattle.usb_control.specs.declared.device.Stage.{Stage}
use Rattle.usb_control.specs.SetupBytes.{IsEncoded}
use Rattle.usb_control.specs.TryFunctions.{AppliesBy, PreparesBy, Table, after_ack_if, control_after, control_tried, effect_reached, host_tried, is_acknowledged, is_applied, takes_effect}
use Rattle.usb_control.specs.Device.{Answers, Applies, Decides as Decides', DevControlState, Effect, effect_of_ack}
use Rattle.usb_control.specs.Host.{HostTransferState, IsRunning}
use Rattle.usb_control.specs.Transfer.{Shape, transfer_shape, Decision, Refused, Accepted, decision_of, Position, Setup, Piece, Status, Past, Place, Act, Nothing, Decides, TakesEffect, Acts, act_at, act_of, comes_from_device, place_after_try, place_after_try_at}
use Rattle.usb_control.specs.Runs.{place_after_tries, is_open, is_open_at}
use Rattle.usb_control.specs.Positions.{TransferIsAt, TransferIsAtWithFault, host_stage, piece_toggle}
use Rattle.usb_control.specs.Interleaving.{BothEnds, GoesBy, Turn, Tries, Meanwhile, act_now, is_effect, is_running, ends_tried, ends_after_turn, ends_after_turns, decision_now, tries_in, LeaveAnswers, EndsAreAt}
use Rattle.usb_control.proofs.KeepsLemmas.{took_keeps}
use Rattle.usb_control.proofs.TryLemmas.{try_shown}
use Rattle.usb_control.proofs.LawLemmas.{kept_across, kept_is}
use Rattle.usb_control.proofs.TryFunctionLemmas.{transacts_computed}

-- a transfer runs exactly where its place is open
runs_data : (b : Bool) (x y : HostStage) → is_running x ≡ true → is_running y ≡ true → is_running (if b then x else y) ≡ true
runs_data true x y hx hy = hx
runs_data false x y hx hy = hy

runs_at : (shape : Shape) (p : Position) → is_running (host_stage shape p) ≡ is_open_at None p
runs_at shape Setup = refl
runs_at shape (Piece k) =
    runs_data shape.reads (stages.DataIn (piece_toggle k)) (stages.DataOut (8 * k) (piece_toggle k)) refl refl
runs_at shape Status = runs_data (comes_from_device shape Status) stages.StatusIn stages.StatusOut refl refl
runs_at shape Past = refl

running_is : {R : Type 0} (answer_of : R → Option (List ℕ)) (shape : Shape) (sends : List ℕ) (place : Place) (host : HostTransferState) (control : DevControlState R)
    → TransferIsAt answer_of shape sends place host control → is_running host.stage ≡ is_open place
running_is answer_of shape sends place host control u =
    let by_fault : TransferIsAtWithFault answer_of shape sends place place.fault host control
    → is_running host.stage ≡ is_open_at place.fault place.host
    = elim place.fault as
    (λ (f : Option ControlFault). TransferIsAtWithFault answer_of shape sends place f host control
    → is_running host.stage ≡ is_open_at f place.host) [
      | Some fault ↦ λ h. ap is_running h
      | None ↦ λ b. ap is_running b.sender.stage ∙ runs_at shape place.host
    ] in by_fault u

pub is_running_runs : (stage : HostStage) → is_running stage ≡ true → IsRunning stage
is_running_runs stages.Done h = absurd (cc)
is_running_runs (stages.Failed fault) h = absurd (cc)
is_running_runs stages.Setup h = refl
is_running_runs (stages.DataIn one) h = refl
is_running_runs (stages.DataOut sent one) h = refl
is_running_runs stages.StatusIn h = refl
is_running_runs stages.StatusOut h = refl

-- a try goes by what a SETUP that arrives in it is decided, and by nothing else of that decision
decides_so : {R : Type 0} (t : Table R) (request : Request) (old new : R) (decision : Decision) (said : Bool) → PreparesBy t old request said new → decision ≡ decision_of said (t.answer_of new)
    → decision ≡ decision_of (t.accepts old request) (t.answer_of (t.prepared old request))
decides_so t request old new decision said gives is =
    is ∙ ap (λ (b : Bool). decision_of b (t.answer_of new)) gives.0 ∙ ap (λ x. decision_of (t.accepts old request) (t.answer_of x)) gives.1

tried_so : {R : Type 0} (t : Table R) (request : Request) (bytes : List ℕ) (shape : Shape) (fate : Fate) (p : Position) (held : Decision) (applied : Bool) (decision : Decision) (place : Place) (old new : R)
    → Acts (PreparesBy t) (AppliesBy t) t.answer_of request bytes (act_at p shape fate decision held applied) old new
    → place_after_try_at p shape fate decision place
    ≡ place_after_try_at p shape fate
    (decision_of (t.accepts old request) (t.answer_of (t.prepared old request))) place
tried_so t request bytes shape TokenLost Setup held applied decision place old new acts = refl
tried_so t request bytes shape Clean Setup held applied decision place old new (said, gives, is) =
    ap (λ (d : Decision). place_after_try_at Setup shape Clean d place)
    (decides_so t request old new decision said gives is)
tried_so t request bytes shape ReplyLost Setup held applied decision place old new (said, gives, is) =
    ap (λ (d : Decision). place_after_try_at Setup shape ReplyLost d place)
    (decides_so t request old new decision said gives is)
tried_so t request bytes shape AckLost Setup held applied decision place old new (said, gives, is) =
    ap (λ (d : Decision). place_after_try_at Setup shape AckLost d place)
    (decides_so t request old new decision said gives is)
tried_so t request bytes shape fate (Piece k) held applied decision place old new acts = refl
tried_so t request bytes shape fate Status held applied decision place old new acts = refl
tried_so t request bytes shape fate Past held applied decision place old new acts = refl

-- ---- the request stays

host_keeps : {R : Type 0} (t : Table R) (fate : Fate) (host : HostTransferState) (c : DevControlState R) → (host_tried t fate host c).setup ≡ host.setup
host_keeps t TokenLost host c = (took_keeps host.stage None host).0
host_keeps t Clean host c = (took_keeps host.stage _ host).0
host_keeps t ReplyLost host c = (took_keeps host.stage _ host).0
host_keeps t AckLost host c = (took_keeps host.stage _ host).0

-- ---- whole lists

run_closed : (shape : Shape) (tries : List (Fate × Decision)) (place : Place) → is_open place ≡ false
    → place_after_tries shape tries place ≡ place
run_closed shape [] place h = refl
run_closed shape (x ∷ tries) place h =
    ap (λ (b : Bool). if b then place_after_tries shape tries (place_after_try shape x.0 x.1 place) else place) h

-- ---- what a try does

-- only a SETUP is decided on
act_apart : (p : Position) (shape : Shape) (fate : Fate) (d e : Decision) (held : Decision) (applied : Bool) → is_effect (act_at p shape fate d held applied) ≡ is_effect (act_at p shape fate e held applied)
act_apart p shape TokenLost d e held applied = refl
act_apart Setup shape Clean d e held applied = refl
act_apart Setup shape ReplyLost d e held applied = refl
act_apart Setup shape AckLost d e held applied = refl
act_apart (Piece k) shape Clean d e held applied = refl
act_apart (Piece k) shape ReplyLost d e held applied = refl
act_apart (Piece k) shape AckLost d e held applied = refl
act_apart Status shape Clean d e Refused applied = refl
act_apart Status shape ReplyLost d e Refused applied = refl
act_apart Status shape AckLost d e Refused applied = refl
act_apart Status shape Clean d e (Accepted x) true = refl
act_apart Status shape ReplyLost d e (Accepted x) true = refl
act_apart Status shape AckLost d e (Accepted x) true = refl
act_apart Status shape Clean d e (Accepted x) false = refl
act_apart Status shape ReplyLost d e (Accepted x) false = refl
act_apart Status shape AckLost d e (Accepted x) false = refl
act_apart Past shape Clean d e held applied = refl
act_apart Past shape ReplyLost d e held applied = refl
act_apart Past shape AckLost d e held applied = refl

acts_so : {R : Type 0} (t : Table R) (request : Request) (bytes : List ℕ) (shape : Shape) (fate : Fate) (p : Position) (held : Decision) (applied : Bool) (decision : Decision) (old new : R)
    → Acts (PreparesBy t) (AppliesBy t) t.answer_of request bytes (act_at p shape fate decision held applied) old new
    → Acts (PreparesBy t) (AppliesBy t) t.answer_of request bytes (act_at p shape fate (decision_of (t.accepts old request) (t.answer_of (t.prepared old request))) held applied) old new
acts_so t request bytes shape TokenLost p held applied decision old new acts = acts
acts_so t request bytes shape Clean Setup held applied decision old new (said, gives, is) = (said, gives, sym (decides_so t request old new decision said gives is) ∙ is)
acts_so t request bytes shape ReplyLost Setup held applied decision old new (said, gives, is) = (said, gives, sym (decides_so t request old new decision said gives is) ∙ is)
acts_so t request bytes shape AckLost Setup held applied decision old new (said, gives, is) = (said, gives, sym (decides_so t request old new decision said gives is) ∙ is)
acts_so t request bytes shape Clean (Piece k) held applied decision old new acts = acts
acts_so t request bytes shape ReplyLost (Piece k) held applied decision old new acts = acts
acts_so t request bytes shape AckLost (Piece k) held applied decision old new acts = acts
acts_so t request bytes shape Clean Status Refused applied decision old new acts = acts
acts_so t request bytes shape ReplyLost Status Refused applied decision old new acts = acts
acts_so t request bytes shape AckLost Status Refused applied decision old new acts = acts
acts_so t request bytes shape Clean Status (Accepted x) true decision old new acts = acts
acts_so t request bytes shape ReplyLost Status (Accepted x) true decision old new acts = acts
acts_so t request bytes shape AckLost Status (Accepted x) true decision old new acts = acts
acts_so t request bytes shape Clean Status (Accepted x) false decision old new acts = acts
acts_so t request bytes shape ReplyLost Status (Accepted x) false decision old new acts = acts
acts_so t request bytes shape AckLost Status (Accepted x) false decision old new acts = acts
acts_so t request bytes shape Clean Past held applied decision old new acts = acts
acts_so t request bytes shape ReplyLost Past held applied decision old new acts = acts
acts_so t request bytes shape AckLost Past held applied decision old new acts = acts

-- ---- how often a write takes effect: what answers requests counts it

pub record Counted (R : Type 0) : Type 0 where
  pub inside : R
  pub count : ℕ

abbrev counting : {R : Type 0} → Table R → Table (Counted R)
counting t = record {
  answer_of = λ c. t.answer_of c.inside;
  accepts = λ c setup. t.accepts c.inside setup;
  prepared = λ c setup. record { inside = t.prepared c.inside setup; count = c.count };
  applied = λ c bytes. record { inside = t.applied c.inside bytes; count = c.count + 1 };
}

-- how often, by one effect
abbrev once_if : Bool → ℕ
once_if true = 1
once_if false = 0

acts_count : {R : Type 0} (t : Table R) (request : Request) (bytes : List ℕ) (act : Act) (inside : R) (new : Counted R)
    → Acts (PreparesBy (counting t)) (AppliesBy (counting t)) (counting t).answer_of request bytes act (record { inside = inside; count = 0 }) new → new.count ≡ once_if (is_effect act)
acts_count t request bytes Nothing inside new same = ap (λ (c : Counted _). c.count) same
acts_count t request bytes (Decides decision) inside new (said, gives, is) = ap (λ (c : Counted _). c.count) gives.1
acts_count t request bytes TakesEffect inside new same = ap (λ (c : Counted _). c.count) same

effect_counts : {R : Type 0} (t : Table R) (e : Effect) (inside : R) → (control_after (counting t) e (record { inside = inside; count = 0 })).requests.count ≡ once_if (is_applied e)
effect_counts t (Answers answer stage last_packet) inside = refl
effect_counts t (Decides' bytes) inside = refl
effect_counts t (Applies bytes) inside = refl

ack_counts : {R : Type 0} (t : Table R) (requests : Counted R) (stage : Stage) (last_packet : LastPacket)
    → (control_after (counting t) (effect_of_ack (t.answer_of requests.inside) stage last_packet) requests).requests.count
    ≡ requests.count
ack_counts t requests stage last_packets.Answered = refl
ack_counts t requests stage last_packets.Nothing = refl
ack_counts t requests stage last_packets.Setup = refl
ack_counts t requests stage last_packets.Out = refl

acknowledged_counts : {R : Type 0} (t : Table R) (b : Bool) (c : DevControlState (Counted R))
    → (after_ack_if (counting t) b c).requests.count ≡ c.requests.count
acknowledged_counts t true c = ack_counts t c.requests c.stage c.last_packet
acknowledged_counts t false c = refl

abbrev counted : {R : Type 0} → DevControlState R → DevControlState (Counted R)
counted c = record { requests = record { inside = c.requests; count = 0 }; stage = c.stage; last_packet = c.last_packet }

reached_counts : {R : Type 0} (t : Table R) (fate : Fate) (host : HostTransferState) (c : DevControlState R)
    → let e = effect_reached t host c in
    (after_ack_if (counting t) (is_acknowledged fate host e)
    (control_after (counting t) e (counted c).requests)).requests.count ≡ once_if (is_applied e)
reached_counts t fate host c =
    let e = effect_reached t host c in
    acknowledged_counts t (is_acknowledged fate host e) (control_after (counting t) e (counted c).requests) ∙ effect_counts t e c.requests

tried_counts : {R : Type 0} (t : Table R) (fate : Fate) (host : HostTransferState) (c : DevControlState R)
    → (control_tried (counting t) fate host (counted c)).requests.count ≡ once_if (takes_effect t fate host c)
tried_counts t TokenLost host c = refl
tried_counts t Clean host c = reached_counts t Clean host c
tried_counts t ReplyLost host c = reached_counts t ReplyLost host c
tried_counts t AckLost host c = reached_counts t AckLost host c

once_same : (x y : Bool) → once_if x ≡ once_if y → x ≡ y
once_same true true e = refl
once_same true false e = absurd (cc)
once_same false true e = absurd (cc)
once_same false false e = refl

takes_so : {R : Type 0} (t : Table R) (sends : List ℕ) (place : Place) (fate : Fate) (m : BothEnds R)
    → IsEncoded m.host.setup → IsRunning m.host.stage → EndsAreAt t sends place m
    → takes_effect t fate m.host m.control ≡ is_effect (act_now t place fate m)
takes_so {R} t sends place fate m encoded running stands =
    let table = counting t in
    let c = counted m.control in
    let shape = transfer_shape m.host.setup in
    let there = kept_across t.answer_of table.answer_of shape sends place m.host m.control c stands refl refl in
    let shown = try_shown (PreparesBy table) (AppliesBy table) table.answer_of shape sends fate place m.host c (host_tried table fate m.host c) (control_tried table fate m.host c) encoded running there (transacts_computed table fate m.host c) in
    once_same (takes_effect t fate m.host m.control) (is_effect (act_now t place fate m))
    (sym (tried_counts t fate m.host m.control)
    ∙ acts_count t m.host.setup sends (act_of shape fate shown.0 place) m.control.requests (control_tried table fate m.host c).requests shown.1
    ∙ ap once_if (act_apart place.host shape fate shown.0 (decision_now t m) place.decision place.applied))

-- one try of a transfer that runs
pub goes_by : {R : Type 0} (t : Table R) (sends : List ℕ) (place : Place) (fate : Fate) (m : BothEnds R)
    → IsEncoded m.host.setup → IsRunning m.host.stage → EndsAreAt t sends place m → GoesBy t sends place fate m
goes_by {R} t sends place fate m encoded running stands =
    let shape = transfer_shape m.host.setup in
    let shown = try_shown (PreparesBy t) (AppliesBy t) t.answer_of shape sends fate place m.host m.control (host_tried t fate m.host m.control) (control_tried t fate m.host m.control) encoded running stands (transacts_computed t fate m.host m.control) in
    let same : place_after_try shape fate shown.0 place ≡ place_after_try shape fate (decision_now t m) place
    = tried_so t m.host.setup sends shape fate place.host place.decision place.applied shown.0 place m.control.requests (control_tried t fate m.host m.control).requests shown.1 in
    let asked = host_keeps t fate m.host m.control in
    record {
      acts = acts_so t m.host.setup sends shape fate place.host place.decision place.applied shown.0 m.control.requests (control_tried t fate m.host m.control).requests shown.1;
      takes = takes_so t sends place fate m encoded running stands;
      asked = asked;
      stands = subst
          (λ (s : Shape). TransferIsAt t.answer_of s sends (place_after_try shape fate (decision_now t m) place)
          (host_tried t fate m.host m.control) (control_tried t fate m.host m.control))
          (sym (ap transfer_shape asked))
          (subst (λ (p : Place). TransferIsAt t.answer_of shape sends p (host_tried t fate m.host m.control)
          (control_tried t fate m.host m.control)) same shown.2);
    }

pub runs_so : {R : Type 0} (t : Table R) (sends : List ℕ) (place : Place) (m : BothEnds R) → EndsAreAt t sends place m
    → is_running m.host.stage ≡ is_open place
runs_so t sends place m stands =
    running_is t.answer_of (transfer_shape m.host.setup) sends place m.host m.control stands

pub places_are_run : {R : Type 0} (t : Table R) (sends : List ℕ) (place : Place) (m : BothEnds R) (xs : List (Turn R))
    → IsEncoded m.host.setup → LeaveAnswers t xs → EndsAreAt t sends place m
    → EndsAreAt t sends (place_after_tries (transfer_shape m.host.setup) (tries_in t m xs) place)
    (ends_after_turns t m xs)
places_are_run t sends place m [] encoded keep stands = stands
places_are_run t sends place m (Meanwhile f hears ∷ xs) encoded keep stands =
    let n : BothEnds _ =
    record {
      control =
          record m.control { requests = f m.control.requests; last_packet = hears m.control.last_packet };
      host =
          m.host;
    } in
    places_are_run t sends place n xs encoded keep.1
    (kept_is t.answer_of (transfer_shape m.host.setup) sends place m.host m.control n.control stands
    (keep.0 m.control.requests) refl)
places_are_run {R} t sends place m (Tries fate ∷ xs) encoded keep stands =
    let shape = transfer_shape m.host.setup in
    let Goal : BothEnds R → Bool → Type 0 =
    λ n o. EndsAreAt t sends
    (if o then place_after_tries shape (tries_in t n xs)
    (place_after_try shape fate (decision_now t m) place) else place) (ends_after_turns t n xs) in
    let opens = runs_so t sends place m stands in
    elim (cases_Bool (is_running m.host.stage)) [
      | inl runs ↦
          let n = ends_tried t fate m in
          let same_setup : n.host.setup ≡ m.host.setup = host_keeps t fate m.host m.control in
          let next = (goes_by t sends place fate m encoded (is_running_runs m.host.stage runs) stands).stands in
          let rest =
          places_are_run t sends (place_after_try shape fate (decision_now t m) place) n xs
          (subst IsEncoded (sym same_setup) encoded) keep next in
          let rest_here : Goal n true =
          subst (λ (s : Shape). EndsAreAt t sends
          (place_after_tries s (tries_in t n xs) (place_after_try shape fate (decision_now t m) place))
          (ends_after_turns t n xs)) (ap transfer_shape same_setup) rest in
          let there : ends_tried t fate m ≡ ends_after_turn t m (Tries fate) =
          sym (ap (λ (b : Bool). if b then ends_tried t fate m else m) runs) in
          subst (λ (o : Bool). Goal (ends_after_turn t m (Tries fate)) o) (sym runs ∙ opens)
          (subst (λ (x : BothEnds R). Goal x true) there rest_here)
      | inr over ↦
          let closed : is_open place ≡ false = sym opens ∙ over in
          let rest = places_are_run t sends place m xs encoded keep stands in
          let rest_here : Goal m false =
          subst (λ (p : Place). EndsAreAt t sends p (ends_after_turns t m xs))
          (run_closed shape (tries_in t m xs) place closed) rest in
          let there : m ≡ ends_after_turn t m (Tries fate) =
          sym (ap (λ (b : Bool). if b then ends_tried t fate m else m) over) in
          subst (λ (o : Bool). Goal (ends_after_turn t m (Tries fate)) o) (sym closed)
          (subst (λ (x : BothEnds R). Goal x false) there rest_here)
    ]

-- what the host asked for stays
turned_setup : {R : Type 0} (t : Table R) (m : BothEnds R) (fate : Fate) (b : Bool)
    → (if b then ends_tried t fate m else m).host.setup ≡ m.host.setup
turned_setup t m fate true = host_keeps t fate m.host m.control
turned_setup t m fate false = refl

pub setup_stays : {R : Type 0} (t : Table R) (m : BothEnds R) (xs : List (Turn R))
    → (ends_after_turns t m xs).host.setup ≡ m.host.setup
setup_stays t m [] = refl
setup_stays t m (Meanwhile f hears ∷ xs) = setup_stays t (ends_after_turn t m (Meanwhile f hears)) xs
setup_stays t m (Tries fate ∷ xs) =
    setup_stays t (ends_after_turn t m (Tries fate)) xs ∙ turned_setup t m fate (is_running m.host.stage)
