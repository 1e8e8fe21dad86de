use Rattle.std.proofs.Common.{◌≡◌, ◌*◌, length, take}
use Rattle.std.specs.Int.{w32, to_be_bytes}
use Rattle.std.specs.List.{flat_map}
use Rattle.usbip.proofs.encoding.header.Given as goal

abbrev pub invariant-loop-word : goal.invariant-loop-word
invariant-loop-word l =
    record {
      bytes : l.bytes.items ≡ flat_map (to_be_bytes w32) (take l.word-index l.words);
      count : length l.bytes.items ≡ 4 * l.word-index;
    }
