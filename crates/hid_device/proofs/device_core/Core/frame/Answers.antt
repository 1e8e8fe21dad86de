use Rattle.std.proofs.Common.{◌≡◌, ◌∙◌, ◌+◌, ◌++◌, ℕ, List, length, map, take, drop, ap}
use Rattle.std.specs.Prelude.{min}
use Rattle.std.proofs.lemmas.List.{length-map}
use Rattle.hid_device.specs.contracts.device_core.Core.{the_view}
use Rattle.hid_device.specs.Core.{CoreState, framed_core}
use Rattle.hid_bus.specs.ReportState.{ReportState, most_frames}
use Rattle.hid_device.proofs.OutputLemmas.{refilled, sound_framed}
use Rattle.hid_device.proofs.device_core.Core.frame.Goals as goal

frames_are : (c : goal.After-self-2-1) → c.count_frame.new.frames ≡ map (λ n. min (n + 1) most_frames) c.self.inside.frames.items
frames_are c = c.count_frame.ensures ∙ ap (λ (frames : List ℕ). map (λ n. min (n + 1) most_frames) frames) c.deref_mut.ensures.value

same_length : (c : goal.After-self-2-1) → length c.count_frame.new.frames ≡ length c.self.inside.frames.items
same_length c = ap (λ (frames : List ℕ). length frames) (frames_are c) ∙ length-map c.self.inside.frames.items (λ (n : ℕ). min (n + 1) most_frames)

frames_then : (c : goal.After-self-2-1)
    → take c.self.inside.frames.len (c.count_frame.new.frames ++ drop (length c.count_frame.new.frames) c.self.inside.frames.items) ≡ c.count_frame.new.frames
frames_then c = refilled c.count_frame.new.frames c.self.inside.frames.items c.self.inside.frames.len c.self.inside.frames.ok.0 (same_length c)

pub invariant_of-self : goal.invariant_of-self
invariant_of-self c =
    let before = c.self.invariant.sound in
    record {
      sound = sound_framed (the_view c.self.inside) _ before (ap (λ (frames : List ℕ). length frames) (frames_then c) ∙ same_length c ∙ before.each_frames);
      nothing_due = c.self.invariant.nothing_due;
      armed = c.self.invariant.armed;
      round = c.self.invariant.round;
      room = c.self.invariant.room;
    }

pub returns : goal.returns
returns c =
    let core = the_view c.self.inside in
    ap (λ (frames : List ℕ). let d : ReportState = record core.reports { frames = frames } in let framed : CoreState =
    record core { reports = d } in framed) (frames_then c ∙ frames_are c)
    ∙ ap framed_core c.self.view_is
