-- The reports of an interface, out of the transfers in which they come.
use Rattle.std.proofs.Common.{◌≡◌, ℕ, ◌+◌, ◌<◌, refl, sym, ◌∙◌, ap, Bool, true, false, cond, List, [], ◌∷◌, ◌++◌, length, get_or, take, map, append_assoc, add-one, Option, Some, None, arith}
use Rattle.std.specs.Prelude.{is_some, max, nat_le, nat_lt, not, option_map, ◌&&◌, ◌||◌}
use Rattle.std.proofs.lemmas.Bool.{le-ltb, lt-ltb}
use Rattle.std.proofs.lemmas.List.{map-append, take_more}
use Rattle.hid_report_descriptor.specs.declared.limits.TheConstants.{MAX_REPORT_BYTES}
use Rattle.hid_layout.specs.Layout.{Contents}
use Rattle.hid_layout.specs.Reports.{report_bytes}
use Rattle.hid_snapshots.specs.declared.event.Event.{Event}
use Rattle.hid_usages.specs.Reading.{report_begun}
use Rattle.hid_usages.specs.Receiving.{ReceiverState, after_packet, is_whole, without_collected}
use Rattle.hid_driver.specs.declared.outcome.DriverEvent.{DriverEvent}
use Rattle.hid_driver.specs.declared.outcome.Outcome.{Outcome}
use Rattle.hid_driver.specs.declared.outcome.Outcome.TheVariants.{Done, Stalled, Failed}
use Rattle.hid_driver.specs.Pipe.{PipeState, event_of, full_size, has_come, pipe_after_outcome, is_full, is_live, is_long, length_begun, live_pipe, longest_of, size_with, transfer_ends}

-- the longest of one more report
pub longest_more : (layout : Contents) (count : ℕ) → longest_of layout (count + 1) ≡ max (longest_of layout count) (report_bytes layout count)
longest_more layout count = ap (longest_of layout) (add-one count)

-- a transfer leaves the layout
received_layout : (long : Bool) (receiving : ReceiverState) (size : ℕ) (bytes : List ℕ)
    → (cond long (without_collected receiving) (after_packet size receiving bytes)).layout ≡ receiving.layout
received_layout true receiving size bytes = refl
received_layout false receiving size bytes = refl

live_layout : (pipe : PipeState) (outcome : Outcome) → (live_pipe pipe outcome).receiving.layout ≡ pipe.receiving.layout
live_layout pipe (Done bytes) = received_layout (is_long pipe bytes.now) pipe.receiving (size_with pipe bytes.now) bytes.now
live_layout pipe Stalled = refl
live_layout pipe Failed = refl

heard_layout_if : (live : Bool) (pipe : PipeState) (outcome : Outcome)
    → (cond live (live_pipe pipe outcome) pipe).receiving.layout ≡ pipe.receiving.layout
heard_layout_if true pipe outcome = live_layout pipe outcome
heard_layout_if false pipe outcome = refl

pub heard_layout : (pipe : PipeState) (outcome : Outcome) → (pipe_after_outcome pipe outcome).receiving.layout ≡ pipe.receiving.layout
heard_layout pipe outcome = heard_layout_if (is_live pipe.flow) pipe outcome

-- by the size with which a transfer is received, a report ends where a transfer ends it
ends_by : (full : Bool) (begun : Option ℕ) (lengths : ℕ → ℕ) (last came : ℕ)
    → (nat_lt last (cond (full && is_some (option_map lengths begun)) last (last + 1))
    || nat_le (elim begun as (λ _. ℕ) [ None ↦ MAX_REPORT_BYTES | Some r ↦ lengths r ]) came)
    ≡ (not full || has_come (option_map lengths begun) came)
ends_by true None lengths last came =
    ap (λ (b : Bool). b || nat_le MAX_REPORT_BYTES came) (lt-ltb last (last + 1) (omega arith))
ends_by true (Some r) lengths last came = ap (λ (b : Bool). b || nat_le (lengths r) came) (le-ltb last last (omega arith))
ends_by false begun lengths last came =
    ap (λ (b : Bool). b || nat_le (elim begun as (λ _. ℕ) [ None ↦ MAX_REPORT_BYTES | Some r ↦ lengths r ]) came)
    (lt-ltb last (last + 1) (omega arith))

pub ends_same : (packet_size : ℕ) (layout : Contents) (bytes : List ℕ) (last : ℕ)
    → is_whole (full_size packet_size (length_begun layout bytes) last) layout bytes last
    ≡ transfer_ends packet_size (length_begun layout bytes) (length bytes) last
ends_same packet_size layout bytes last =
    ends_by (is_full packet_size last) (report_begun layout bytes) (report_bytes layout) last (length bytes)

-- one more event is handed on
pub handed_more : (interface : ℕ) (events : List Event) (i : ℕ) (d : Event) (out before now : List DriverEvent)
    → i < length events → before ≡ out ++ map (event_of interface) (take i events)
    → now ≡ before ++ event_of interface (get_or events i d) ∷ []
    → now ≡ out ++ map (event_of interface) (take (i + 1) events)
handed_more interface events i d out before now within copied pushed =
    let one = event_of interface (get_or events i d) ∷ [] in
    let more : map (event_of interface) (take (i + 1) events) ≡ map (event_of interface) (take i events) ++ one
    = ap (map (event_of interface)) (take_more events i d within)
    ∙ map-append (event_of interface) (take i events) (get_or events i d ∷ []) in
    pushed ∙ ap (λ (es : List DriverEvent). es ++ one) copied
    ∙ append_assoc out (map (event_of interface) (take i events)) one
    ∙ ap (λ (es : List DriverEvent). out ++ es) (sym more)
