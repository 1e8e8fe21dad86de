use Rattle.std.proofs.Common.{◌++◌, sym, ap, ◌∙◌, append_assoc, rules}
use Rattle.std.proofs.Math.ListN.{get_or}
use Rattle.std.proofs.lemmas.List.{at_drop_more}
use Rattle.std.proofs.Output.{has_written_append}
use Rattle.command_words.specs.Names.{byte_text, bytes_text}
use Rattle.command_words.proofs.names.EscapedBytesDisplay.fmt.Goals as goal

pub loop-byte-preserved : goal.loop-byte-preserved
loop-byte-preserved g c =
    λ plain.
    let now = c.loop-byte.invariant plain in (
      now.0 ++ byte_text (get_or c.args.self.now.0.now c.loop-byte.byte-index 0),
      has_written_append _ _ _ _ _ _ now.1 (search rules),
      append_assoc now.0 (byte_text (get_or c.args.self.now.0.now c.loop-byte.byte-index 0)) _ ∙ ap (λ l. now.0 ++ l) (sym (at_drop_more bytes_text c.args.self.now.0.now c.loop-byte.byte-index 0 (search rules))) ∙ now.2,
    )
