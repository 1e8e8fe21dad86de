-- What the calls of a client tell together.
use Rattle.std.proofs.Common.{◌≡◌, ◌++◌, ◌+◌, ◌∙◌, ◌∷◌, ℕ, Bool, List, [], Ok, Some, refl, replicate, length, sym, ap, subst}
use Rattle.hid_layout.specs.declared.control.ControlId.{ControlId}
use Rattle.hid_layout.specs.Controls.{Item, items_of}
use Rattle.hid_snapshots.specs.declared.control_state.ControlState.{ControlState}
use Rattle.hid_usages.specs.ControlStates.{blank}
use Rattle.hid_usages.specs.Snapshots.{is_pressed, state_at}
use Rattle.hid_device.specs.declared.config.Config.{Config}
use Rattle.hid_device.specs.Inputs.{input_count}
use Rattle.hid_bus.specs.Rounds.{crossed_rounds, events_of_rounds, view_after_rounds}
use Rattle.hid_host.specs.declared.phase.HostPhase.{HostPhase}
use Rattle.hid_host.specs.declared.phase.HostPhase.TheVariants.{Cold, Described, Parsed, Ready}
use Rattle.hid_bus.specs.declared.step.Step.{Step}
use Rattle.hid_bus.specs.declared.step.Delivered.{Delivered}
use Rattle.hid_bus.specs.Delivered.{from_device}
use Rattle.hid_host.specs.declared.fault.StackFault.{StackFault}
use Rattle.hid_stack.specs.Attaching.{Attaches, CanAttach, IsAttached}
use Rattle.hid_stack.specs.Headline.{DeliversChanges, KeepsToRounds}
use Rattle.hid_host.specs.Host.{HostDeviceState}
use Rattle.hid_host.specs.declared.phase.HostState.TheVariants as states
use Rattle.hid_host.specs.Phase.{IfReady, state_of}
use Rattle.hid_bus.specs.declared.start.Start.TheVariants as starts
use Rattle.hid_stack.specs.Members.{Member, fresh_member}
use Rattle.hid_stack.specs.Rig.{HasOnlySchedule, StopsAt, device_steps}
use Rattle.hid_stack.specs.Accessors.{ShowsPhase, ShowsHost, MemberGives}
use Rattle.hid_client.specs.Playing.{IsPlayed, IsStopped}

-- what a ready host holds is what its member's view holds
held_shown : (m : Member) (phase : HostPhase) (control : ControlId) (is_held : Bool) → state_of phase ≡ states.Ready → ShowsPhase m phase
    → IfReady phase (λ known. is_held ≡ is_pressed (state_at known.view control.item) control.index)
    → is_held ≡ is_pressed (state_at m.link.view control.item) control.index
held_shown m Cold control is_held ready shows is = absurd (cc)
held_shown m (Described info) control is_held ready shows is = absurd (cc)
held_shown m (Parsed info layout) control is_held ready shows is = absurd (cc)
held_shown m (Ready known) control is_held ready shows is =
    is ∙ ap (λ (v : List ControlState). is_pressed (state_at v control.item) control.index) shows.view

same_member : (m n : Member) → (let o = Some m in o) ≡ Some n → m ≡ n
same_member m n e = cc

pub played : (config : Config) (descriptor : List ℕ) (steps : List Step) (control : ControlId)
    (none members after : List Member) (dev : ℕ) (before given : List Delivered) (host : HostDeviceState)
    (is_held : Bool) → none ≡ [] → IsAttached config descriptor starts.Ready none dev members → before ≡ [] → DeliversChanges members steps before given → KeepsToRounds members steps after
    → MemberGives ShowsHost after dev host
    → IfReady host.phase (λ known. is_held ≡ is_pressed (state_at known.view control.item) control.index)
    → IsPlayed config descriptor steps control given is_held
played config descriptor steps control none members after dev before given host is_held none_is attached before_is headline keeps shows held_is =
    let first : dev ≡ 1 = attached.number ∙ ap (λ (ms : List Member). length ms + 1) none_is in
    let layout = attached.layout in
    let items : List Item = items_of layout in
    let idle : List ℕ = replicate (input_count layout.reports) 0 in
    let m : Member = fresh_member dev config descriptor layout in
    let own_of : HasOnlySchedule 1 steps → HasOnlySchedule dev steps = subst (λ (d : ℕ). HasOnlySchedule d steps) (sym first) in
    record {
      layout = layout;
      suits = subst (λ (d : ℕ). CanAttach d config descriptor layout) first attached.suits;
      events = λ only. subst
          (λ (d : ℕ). from_device d given
          ≡ events_of_rounds items (blank items)
          (crossed_rounds items (blank items) idle (device_steps d steps))) first
          (headline dev m (blank items) idle attached.begins (record { host = refl; link = refl; clear = refl })
          (own_of only)
          ∙ ap (λ (ds : List Delivered). from_device dev ds
          ++ events_of_rounds items (blank items)
          (crossed_rounds items (blank items) idle (device_steps dev steps))) before_is);
      held = λ only.
          let stands = keeps dev m attached.begins refl refl (own_of only) in
          let same : shows.0 ≡ (record m { link = stands.0 }) =
          same_member shows.0 (record m { link = stands.0 }) (sym shows.1 ∙ stands.1) in
          let ready : state_of host.phase ≡ states.Ready = shows.2.state ∙ ap (λ (n : Member). n.host) same in
          held_shown shows.0 host.phase control is_held ready shows.2.knows held_is
          ∙ ap (λ (n : Member). is_pressed (state_at n.link.view control.item) control.index) same
          ∙ ap (λ (v : List ControlState). is_pressed (state_at v control.item) control.index)
          (stands.2.view
          ∙ ap (λ (d : ℕ). view_after_rounds items (blank items)
          (crossed_rounds items (blank items) idle (device_steps d steps))) first);
    }

-- a run that stops on a bus to which one device was attached
pub stopped : (config : Config) (descriptor : List ℕ) (steps : List Step) (room : ℕ) (none members : List Member) (dev at : ℕ) (fault : StackFault)
    → none ≡ [] → Attaches room config descriptor starts.Ready none (Ok dev) members → StopsAt members steps at fault → IsStopped config descriptor steps fault
stopped config descriptor steps room none members dev at fault none_is attaches stops =
    let first : dev ≡ 1 = attaches.1 ∙ ap (λ (ms : List Member). length ms + 1) none_is in
    let layout = attaches.2.0 in
    let alone : members ≡ fresh_member 1 config descriptor layout ∷ [] = attaches.2.2
    ∙ ap (λ (ms : List Member). ms ++ fresh_member dev config descriptor layout ∷ []) none_is
    ∙ ap (λ (d : ℕ). fresh_member d config descriptor layout ∷ []) first in
    record {
      layout = layout;
      suits = subst (λ (d : ℕ). CanAttach d config descriptor layout) first attaches.2.1;
      at = at;
      stops = subst (λ (ms : List Member). StopsAt ms steps at fault) alone stops;
    }
