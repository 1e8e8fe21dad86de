use Rattle.std.proofs.Common.{◌≡◌, ◌∙◌, ◌≤◌, ◌++◌, ℕ, List, Some, ap, sym, arith, length, take, drop, slice_get}
use Rattle.std.proofs.lemmas.List.{length-take-le}
use Rattle.hid_gadget.specs.Rooms.{with_front}
use Rattle.hid_gadget.specs.WholeReports.{bytes_taken}
use Rattle.usbip_export.specs.ExportedDevices.{report_room}
use Rattle.usbip_export.proofs.PayloadLemmas.{oldest_data, taken_short}
use Rattle.usbip_export.proofs.RoomLemmas.{front_of_part}
use Rattle.usbip_export.proofs.exported_device.ExportedDevice.poll.Goals as goal

pub returns-clause-payload : goal.returns-clause-payload
returns-clause-payload c =
    let fits : c.min-count.result ≤ length c.args.room.now = omega (arith, c.requires, c.min-count.ensures) in
    let long : length (take c.min-count.result c.args.room.now) ≡ c.min-count.result =
    length-take-le c.min-count.result c.args.room.now fits in
    let oldest : slice_get c.args.self.now.pending 0 ≡ Some c.in_ok-oldest.oldest = cc in
    let bytes : bytes_taken c.args.self.now.gadget (length (take c.min-count.result c.args.room.now))
    ≡ bytes_taken c.args.self.now.gadget c.min-count.result = ap (bytes_taken c.args.self.now.gadget) long in
    let given : bytes_taken c.args.self.now.gadget c.min-count.result
    ≡ bytes_taken c.args.self.now.gadget (report_room c.in_ok-oldest.oldest) =
    ap (bytes_taken c.args.self.now.gadget) c.min-count.ensures in
    ap (λ (l : List ℕ). l ++ drop c.min-count.result c.args.room.now)
    (c.report.ensures.bytes ∙ ap (λ (l : List ℕ). with_front l (take c.min-count.result c.args.room.now)) bytes)
    ∙ (front_of_part (bytes_taken c.args.self.now.gadget c.min-count.result) c.args.room.now c.min-count.result
    (taken_short c.args.self.now.gadget c.min-count.result) fits
    ∙ ap (λ (l : List ℕ). with_front l c.args.room.now)
    (given ∙ sym (oldest_data c.args.self.now.gadget c.args.self.now.pending c.in_ok-oldest.oldest oldest)))
