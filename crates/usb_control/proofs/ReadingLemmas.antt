-- apply_gives read gets the payloads of its data stage joined.
use Rattle.std.proofs.Common.{◌≡◌, ℕ, ◌+◌, ◌-◌, ◌<◌, ◌≤◌, ◌⊎◌, refl, sym, ◌∙◌, ap, subst, Bool, true, false, not, nat_lt, nat_le, ◌==◌, ◌&&◌, List, [], ◌∷◌, ◌++◌, length, Contains, Option, Some, None, arith, append_assoc, length-append}
use Rattle.std.specs.Prelude.{if◌then◌else◌}
use Rattle.std.specs.List.{concat}
use Rattle.std.proofs.lemmas.List.{append-nil}
use Rattle.std.proofs.lemmas.Map.Made.{Contains-tail}
use Rattle.std.proofs.lemmas.Bool.Decides.{nat_tests}
use Rattle.usb_packet.specs.declared.packet.Packet.{Packet}
use Rattle.usb_packet.specs.declared.packet.Packet.TheVariants as packets
use Rattle.usb_control.specs.declared.setup.Setup.{Setup as Request}
use Rattle.usb_control.specs.declared.fault.ControlFault.{ControlFault}
use Rattle.usb_control.specs.declared.fault.ControlFault.TheVariants as faults
use Rattle.usb_control.specs.declared.host.HostStage.{HostStage}
use Rattle.usb_control.specs.declared.host.HostStage.TheVariants as tries
use Rattle.usb_control.specs.SetupBytes.{reads}
use Rattle.usb_control.specs.Host.{HostTransferState, after_setup, status_in}
use Rattle.usb_control.specs.Reading.{took_all, accepted_payloads, IsDataStage, IsReadOf}

abbrev at : ℕ → Request → List ℕ → HostStage → ℕ → HostTransferState
at addr request bytes stage tried = record { addr = addr; setup = request; bytes = bytes; stage = stage; tries = tried }

-- a transfer that failed stays so
fails : (came : List (Option Packet)) (addr : ℕ) (request : Request) (bytes : List ℕ) (fault : ControlFault) (tried : ℕ) → took_all came (at addr request bytes (tries.Failed fault) tried) ≡ at addr request bytes (tries.Failed fault) tried
fails [] addr request bytes fault tried = refl
fails (x ∷ came) addr request bytes fault tried = fails came addr request bytes fault tried

is_done_failed : (came : List (Option Packet)) (addr : ℕ) (request : Request) (bytes : List ℕ) (fault : ControlFault) (tried : ℕ) → ¬ ((took_all came (at addr request bytes (tries.Failed fault) tried)).stage ≡ tries.Done)
is_done_failed came addr request bytes fault tried e =
    let h = ap (λ (t : HostTransferState). t.stage) (fails came addr request bytes fault tried) in cc

-- a try without an answer: one more, or the last
record Silent (came : List (Option Packet)) (addr : ℕ) (request : Request) (bytes : List ℕ) (stage : HostStage) (after : HostTransferState) : Type 0 where
  tried : ℕ
  same : took_all came after ≡ took_all came (at addr request bytes stage tried)

silent_if : (b : Bool) (came : List (Option Packet)) (addr : ℕ) (request : Request) (bytes : List ℕ) (stage : HostStage) (tried : ℕ) → let after = if b then at addr request bytes stage (tried + 1) else at addr request bytes (tries.Failed faults.BusFault) tried in (took_all came after).stage ≡ tries.Done → Silent came addr request bytes stage after
silent_if true came addr request bytes stage tried done = record { tried = tried + 1; same = refl }
silent_if false came addr request bytes stage tried done = absurd (is_done_failed came addr request bytes faults.BusFault tried done)

-- after the data stage the bytes stay
done_stays : (came : List (Option Packet)) (addr : ℕ) (request : Request) (bytes : List ℕ) (tried : ℕ) → (took_all came (at addr request bytes tries.Done tried)).bytes ≡ bytes
done_stays [] addr request bytes tried = refl
done_stays (x ∷ came) addr request bytes tried = done_stays came addr request bytes tried

-- at a stage of the status, whatever the tries so far
abbrev Stays : List (Option Packet) → ℕ → Request → List ℕ → HostStage → Type 0
Stays came addr request bytes stage = (t : ℕ) → (took_all came (at addr request bytes stage t)).stage ≡ tries.Done → (took_all came (at addr request bytes stage t)).bytes ≡ bytes

silent_stays : (stage : HostStage) (came : List (Option Packet)) (addr : ℕ) (request : Request) (bytes : List ℕ) (tried : ℕ) → let after = if nat_lt tried 2 then at addr request bytes stage (tried + 1) else at addr request bytes (tries.Failed faults.BusFault) tried in Stays came addr request bytes stage → (took_all came after).stage ≡ tries.Done → (took_all came after).bytes ≡ bytes
silent_stays stage came addr request bytes tried more done =
    let s = silent_if (nat_lt tried 2) came addr request bytes stage tried done in
    ap (λ (t : HostTransferState). t.bytes) s.same ∙ more s.tried (sym (ap (λ (t : HostTransferState). t.stage) s.same) ∙ done)

status_out_stays : (came : List (Option Packet)) (addr : ℕ) (request : Request) (bytes : List ℕ) → Stays came addr request bytes tries.StatusOut
status_out_stays [] addr request bytes tried done = refl
status_out_stays (None ∷ came) addr request bytes tried done = silent_stays tries.StatusOut came addr request bytes tried (status_out_stays came addr request bytes) done
status_out_stays (Some packets.Ack ∷ came) addr request bytes tried done = done_stays came addr request bytes 0
status_out_stays (Some packets.Nak ∷ came) addr request bytes tried done = status_out_stays came addr request bytes 0 done
status_out_stays (Some packets.Stall ∷ came) addr request bytes tried done = absurd (is_done_failed came addr request bytes faults.Stalled tried done)
status_out_stays (Some (packets.Token k a e) ∷ came) addr request bytes tried done = silent_stays tries.StatusOut came addr request bytes tried (status_out_stays came addr request bytes) done
status_out_stays (Some (packets.Data one p) ∷ came) addr request bytes tried done = silent_stays tries.StatusOut came addr request bytes tried (status_out_stays came addr request bytes) done

status_payload_stays : (payload : List ℕ) (came : List (Option Packet)) (addr : ℕ) (request : Request) (bytes : List ℕ) (tried : ℕ) → let after = status_in true payload (at addr request bytes tries.StatusIn tried) in (took_all came after).stage ≡ tries.Done → (took_all came after).bytes ≡ bytes
status_payload_stays [] came addr request bytes tried done = done_stays came addr request bytes 0
status_payload_stays (x ∷ xs) came addr request bytes tried done = absurd (is_done_failed came addr request bytes faults.Overrun tried done)

status_in_stays : (came : List (Option Packet)) (addr : ℕ) (request : Request) (bytes : List ℕ) → Stays came addr request bytes tries.StatusIn
status_in_stays [] addr request bytes tried done = refl
status_in_stays (None ∷ came) addr request bytes tried done = silent_stays tries.StatusIn came addr request bytes tried (status_in_stays came addr request bytes) done
status_in_stays (Some packets.Ack ∷ came) addr request bytes tried done = silent_stays tries.StatusIn came addr request bytes tried (status_in_stays came addr request bytes) done
status_in_stays (Some packets.Nak ∷ came) addr request bytes tried done = status_in_stays came addr request bytes 0 done
status_in_stays (Some packets.Stall ∷ came) addr request bytes tried done = absurd (is_done_failed came addr request bytes faults.Stalled tried done)
status_in_stays (Some (packets.Token k a e) ∷ came) addr request bytes tried done = silent_stays tries.StatusIn came addr request bytes tried (status_in_stays came addr request bytes) done
status_in_stays (Some (packets.Data false p) ∷ came) addr request bytes tried done = status_in_stays came addr request bytes 0 done
status_in_stays (Some (packets.Data true p) ∷ came) addr request bytes tried done = status_payload_stays p.items came addr request bytes tried done

-- what a data stage gets, after the bytes that the host has
record Gets (asked : ℕ) (bytes : List ℕ) (one : Bool) (came : List (Option Packet)) (final : List ℕ) : Type 0 where
  stage : List (Option Packet)
  behind : List (Option Packet)
  order : came ≡ stage ++ behind
  data_stage : IsDataStage (asked - length bytes) (accepted_payloads one stage)
  bytes_are : final ≡ bytes ++ concat (accepted_payloads one stage)

-- one packet more that is thrown away
thrown : (asked : ℕ) (bytes : List ℕ) (one : Bool) (x : Option Packet) (came : List (Option Packet)) (final : List ℕ)
    → ((stage : List (Option Packet)) → accepted_payloads one (x ∷ stage) ≡ accepted_payloads one stage)
    → Gets asked bytes one came final → Gets asked bytes one (x ∷ came) final
thrown asked bytes one x came final skips g = record {
  stage = x ∷ g.stage;
  behind = g.behind;
  order = ap (λ (l : List (Option Packet)). x ∷ l) g.order;
  data_stage = rw (skips g.stage) g.data_stage;
  bytes_are = rw (skips g.stage) g.bytes_are;
}

more_stage : (left : ℕ) (payload : List ℕ) (rest : List (List ℕ)) → length payload ≡ 8 → 8 < left → IsDataStage (left - 8) rest → IsDataStage left (payload ∷ rest)
more_stage left payload [] full more h = absurd (omega (arith, h))
more_stage left payload (next ∷ rest) full more h = (full, more, h)

-- the payload that is accepted next
record GetsNext (asked : ℕ) (bytes : List ℕ) (one : Bool) (payload : List ℕ) (came : List (Option Packet)) (final : List ℕ) : Type 0 where
  stage : List (Option Packet)
  behind : List (Option Packet)
  order : came ≡ stage ++ behind
  data_stage : IsDataStage (asked - length bytes) (payload ∷ accepted_payloads (not one) stage)
  bytes_are : final ≡ bytes ++ (payload ++ concat (accepted_payloads (not one) stage))

-- at the data stage under a toggle, whatever the tries so far
abbrev StageGets : List (Option Packet) → ℕ → Request → List ℕ → Bool → Type 0
StageGets came addr request bytes one = (t : ℕ) → (took_all came (at addr request bytes (tries.DataIn one) t)).stage ≡ tries.Done → Gets request.length bytes one came (took_all came (at addr request bytes (tries.DataIn one) t)).bytes

next_fits : (n m asked : ℕ) → (nat_le n 8 && nat_le (m + n) asked) ≡ true → (n ≤ 8) × (m + n ≤ asked)
next_fits n m asked e = (grind (arith, nat_tests), grind (arith, nat_tests))

next_full : (n m asked : ℕ) → ((n == 8) && nat_lt (m + n) asked) ≡ true → (n ≡ 8) × (m + n < asked)
next_full n m asked e = (grind (arith, nat_tests), grind (arith, nat_tests))

next_last : (n m asked : ℕ) → n ≤ 8 → m + n ≤ asked → ((n == 8) && nat_lt (m + n) asked) ≡ false → (n < 8) ⊎ (n ≡ asked - m)
next_last n m asked le within e = grind (arith, nat_tests)

next_gets : (b c one : Bool) (payload : List ℕ) (came : List (Option Packet)) (addr : ℕ) (request : Request) (bytes : List ℕ) (tried : ℕ) → let after = if b then at addr request (bytes ++ payload) (if c then tries.DataIn (not one) else tries.StatusOut) 0 else at addr request bytes (tries.Failed faults.Overrun) tried in (nat_le (length payload) 8 && nat_le (length bytes + length payload) request.length) ≡ b → ((length payload == 8) && nat_lt (length bytes + length payload) request.length) ≡ c → StageGets came addr request (bytes ++ payload) (not one) → (took_all came after).stage ≡ tries.Done → GetsNext request.length bytes one payload came (took_all came after).bytes
next_gets false c one payload came addr request bytes tried fits full more done = absurd (is_done_failed came addr request bytes faults.Overrun tried done)
next_gets true true one payload came addr request bytes tried fits full more done =
    let g = more 0 done in
    let f = next_full (length payload) (length bytes) request.length full in
    let left : request.length - length (bytes ++ payload) ≡ request.length - length bytes - 8 = omega (arith, length-append bytes payload, f.0) in
    record {
      stage = g.stage;
      behind = g.behind;
      order = g.order;
      data_stage =
          more_stage (request.length - length bytes) payload (accepted_payloads (not one) g.stage) f.0
          (omega (arith, f.0, f.1))
          (subst (λ (n : ℕ). IsDataStage n (accepted_payloads (not one) g.stage)) left g.data_stage);
      bytes_are = g.bytes_are ∙ append_assoc bytes payload _;
    }
next_gets true false one payload came addr request bytes tried fits full more done =
    let f = next_fits (length payload) (length bytes) request.length fits in
    record {
      stage = [];
      behind = came;
      order = refl;
      data_stage = (f.0, omega (arith, f.1), next_last (length payload) (length bytes) request.length f.0 f.1 full);
      bytes_are = status_out_stays came addr request (bytes ++ payload) 0 done ∙ ap (λ (l : List ℕ). bytes ++ l) (sym (append-nil payload));
    }

taken : (asked : ℕ) (bytes : List ℕ) (one : Bool) (p : _) (came : List (Option Packet)) (final : List ℕ)
    → ((stage : List (Option Packet))
    → accepted_payloads one (Some (packets.Data one p) ∷ stage) ≡ p.items ∷ accepted_payloads (not one) stage)
    → GetsNext asked bytes one p.items came final → Gets asked bytes one (Some (packets.Data one p) ∷ came) final
taken asked bytes one p came final takes g = record {
  stage = Some (packets.Data one p) ∷ g.stage;
  behind = g.behind;
  order = ap (λ (l : List (Option Packet)). Some (packets.Data one p) ∷ l) g.order;
  data_stage = rw (takes g.stage) g.data_stage;
  bytes_are = rw (takes g.stage) g.bytes_are;
}

silent_gets : (one : Bool) (x : Option Packet) (came : List (Option Packet)) (addr : ℕ) (request : Request)
    (bytes : List ℕ) (tried : ℕ) → let after =
    if nat_lt tried 2 then at addr request bytes (tries.DataIn one) (tried + 1) else at addr request bytes
    (tries.Failed faults.BusFault) tried in
    ((stage : List (Option Packet)) → accepted_payloads one (x ∷ stage) ≡ accepted_payloads one stage)
    → StageGets came addr request bytes one → (took_all came after).stage ≡ tries.Done
    → Gets request.length bytes one (x ∷ came) (took_all came after).bytes
silent_gets one x came addr request bytes tried skips more done =
    let s = silent_if (nat_lt tried 2) came addr request bytes (tries.DataIn one) tried done in
    let g = more s.tried (sym (ap (λ (t : HostTransferState). t.stage) s.same) ∙ done) in
    thrown request.length bytes one x came _ skips (subst (λ (l : List ℕ). Gets request.length bytes one came l) (sym (ap (λ (t : HostTransferState). t.bytes) s.same)) g)

data_gets : (came : List (Option Packet)) (one : Bool) (addr : ℕ) (request : Request) (bytes : List ℕ) → StageGets came addr request bytes one
data_gets [] one addr request bytes tried done = cc
data_gets (None ∷ came) one addr request bytes tried done = silent_gets one None came addr request bytes tried (λ s. refl) (data_gets came one addr request bytes) done
data_gets (Some packets.Ack ∷ came) one addr request bytes tried done = silent_gets one (Some packets.Ack) came addr request bytes tried (λ s. refl) (data_gets came one addr request bytes) done
data_gets (Some (packets.Token k a e) ∷ came) one addr request bytes tried done = silent_gets one (Some (packets.Token k a e)) came addr request bytes tried (λ s. refl) (data_gets came one addr request bytes) done
data_gets (Some packets.Nak ∷ came) one addr request bytes tried done = thrown request.length bytes one (Some packets.Nak) came _ (λ s. refl) (data_gets came one addr request bytes 0 done)
data_gets (Some packets.Stall ∷ came) one addr request bytes tried done = absurd (is_done_failed came addr request bytes faults.Stalled tried done)
data_gets (Some (packets.Data true p) ∷ came) true addr request bytes tried done = taken request.length bytes true p came _ (λ s. refl) (next_gets _ _ true p.items came addr request bytes tried refl refl (data_gets came false addr request (bytes ++ p.items)) done)
data_gets (Some (packets.Data false p) ∷ came) false addr request bytes tried done = taken request.length bytes false p came _ (λ s. refl) (next_gets _ _ false p.items came addr request bytes tried refl refl (data_gets came true addr request (bytes ++ p.items)) done)
data_gets (Some (packets.Data false p) ∷ came) true addr request bytes tried done = thrown request.length bytes true (Some (packets.Data false p)) came _ (λ s. refl) (data_gets came true addr request bytes 0 done)
data_gets (Some (packets.Data true p) ∷ came) false addr request bytes tried done = thrown request.length bytes false (Some (packets.Data true p)) came _ (λ s. refl) (data_gets came false addr request bytes 0 done)

-- after the ACK to SETUP
read_begins : (b : Bool) (came : List (Option Packet)) (addr : ℕ) (request : Request) → let after = at addr request [] (if b then tries.StatusIn else tries.DataIn true) 0 in (request.length == 0) ≡ b → (took_all came after).stage ≡ tries.Done → Gets request.length [] true came (took_all came after).bytes
read_begins true came addr request none done = record {
  stage = [];
  behind = came;
  order = refl;
  data_stage = grind (arith, nat_tests);
  bytes_are = status_in_stays came addr request [] 0 done;
}
read_begins false came addr request none done = data_gets came true addr request [] 0 done

ack_reads : (r : Bool) (came : List (Option Packet)) (addr : ℕ) (request : Request) → r ≡ true → let after = at addr request [] (after_setup r request.length) 0 in (took_all came after).stage ≡ tries.Done → Gets request.length [] true came (took_all came after).bytes
ack_reads true came addr request is done = read_begins (request.length == 0) came addr request refl done
ack_reads false came addr request is done = cc

-- one packet more before the ACK
before_ack : (asked : ℕ) (x : Option Packet) (came : List (Option Packet)) (final : List ℕ) → ¬ (x ≡ Some packets.Ack) → IsReadOf asked came final → IsReadOf asked (x ∷ came) final
before_ack asked x came final other g = record {
  before = x ∷ g.before;
  stage = g.stage;
  behind = g.behind;
  order = ap (λ (l : List (Option Packet)). x ∷ l) g.order;
  first = λ h. g.first (Contains-tail x g.before (Some packets.Ack) other h);
  data_stage = g.data_stage;
  bytes_are = g.bytes_are;
}

none_before : (x : Option Packet) → ¬ Contains [] x
none_before x (k, below, e) = absurd (omega (arith, below))

abbrev SetupReads : List (Option Packet) → ℕ → Request → Type 0
SetupReads came addr request = (t : ℕ) → (took_all came (at addr request [] tries.Setup t)).stage ≡ tries.Done → IsReadOf request.length came (took_all came (at addr request [] tries.Setup t)).bytes

silent_reads : (x : Option Packet) (came : List (Option Packet)) (addr : ℕ) (request : Request) (tried : ℕ) → let after = if nat_lt tried 2 then at addr request [] tries.Setup (tried + 1) else at addr request [] (tries.Failed faults.BusFault) tried in ¬ (x ≡ Some packets.Ack) → SetupReads came addr request → (took_all came after).stage ≡ tries.Done → IsReadOf request.length (x ∷ came) (took_all came after).bytes
silent_reads x came addr request tried other more done =
    let s = silent_if (nat_lt tried 2) came addr request [] tries.Setup tried done in
    let g = more s.tried (sym (ap (λ (t : HostTransferState). t.stage) s.same) ∙ done) in
    before_ack request.length x came _ other (subst (λ (l : List ℕ). IsReadOf request.length came l) (sym (ap (λ (t : HostTransferState). t.bytes) s.same)) g)

pub setup_reads : (came : List (Option Packet)) (addr : ℕ) (request : Request) → reads request ≡ true → SetupReads came addr request
setup_reads [] addr request is tried done = cc
setup_reads (None ∷ came) addr request is tried done = silent_reads None came addr request tried (λ e. cc) (setup_reads came addr request is) done
setup_reads (Some packets.Ack ∷ came) addr request is tried done =
    let g = ack_reads (reads request) came addr request is done in
    let from_start : request.length - 0 ≡ request.length = omega arith in
    record {
      before = [];
      stage = g.stage;
      behind = g.behind;
      order = ap (λ (l : List (Option Packet)). Some packets.Ack ∷ l) g.order;
      first = none_before (Some packets.Ack);
      data_stage = subst (λ (n : ℕ). IsDataStage n (accepted_payloads true g.stage)) from_start g.data_stage;
      bytes_are = g.bytes_are;
    }
setup_reads (Some packets.Nak ∷ came) addr request is tried done = silent_reads (Some packets.Nak) came addr request tried (λ e. cc) (setup_reads came addr request is) done
setup_reads (Some packets.Stall ∷ came) addr request is tried done = silent_reads (Some packets.Stall) came addr request tried (λ e. cc) (setup_reads came addr request is) done
setup_reads (Some (packets.Token k a e) ∷ came) addr request is tried done = silent_reads (Some (packets.Token k a e)) came addr request tried (λ e. cc) (setup_reads came addr request is) done
setup_reads (Some (packets.Data one p) ∷ came) addr request is tried done = silent_reads (Some (packets.Data one p)) came addr request tried (λ e. cc) (setup_reads came addr request is) done
