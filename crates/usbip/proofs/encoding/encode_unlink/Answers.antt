use Rattle.std.proofs.Common.{◌≡◌, List, ℕ, rules, subst, sym}
use Rattle.usbip.specs.Messages.{header_bytes, no_setup, unlink_words, IsUnlink}
use Rattle.usbip.proofs.MessageLemmas.{unlink_is_read}
use Rattle.usbip.proofs.encoding.encode_unlink.Goals as goal

pub returns-clause-read : goal.returns-clause-read
returns-clause-read c =
    let encoded : c.header.result.items ≡ header_bytes (unlink_words c.args.unlink.now) no_setup = search rules in
    let read = λ (bytes : List ℕ). IsUnlink bytes c.args.unlink.now in
    subst read (sym encoded) (unlink_is_read c.args.unlink.now (c.header.ensures.fit 1) (c.header.ensures.fit 2) (c.header.ensures.fit 5))
