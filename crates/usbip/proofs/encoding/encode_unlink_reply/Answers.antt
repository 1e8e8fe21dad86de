use Rattle.std.proofs.Common.{◌≡◌, List, ℕ, rules, arith, subst, sym}
use Rattle.usbip.specs.Messages.{header_bytes, no_setup, unlink_reply_words, IsUnlinkReply}
use Rattle.usbip.proofs.MessageLemmas.{unlink_reply_is_read}
use Rattle.usbip.proofs.encoding.encode_unlink_reply.Goals as goal

pub returns-clause-read : goal.returns-clause-read
returns-clause-read c = λ named.
    let encoded : c.header.result.items ≡ header_bytes (unlink_reply_words c.args.reply.now) no_setup = search rules in
    let read = λ (bytes : List ℕ). IsUnlinkReply bytes c.args.reply.now in
    subst read (sym encoded) (unlink_reply_is_read c.args.reply.now (c.header.ensures.fit 1) (omega (arith, c.header.ensures.fit 5)) named)
