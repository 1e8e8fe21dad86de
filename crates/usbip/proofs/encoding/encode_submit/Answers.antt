use Rattle.std.proofs.Common.{◌≡◌, List, ℕ, rules, subst, sym}
use Rattle.usbip.specs.Messages.{header_bytes, submit_words, IsSubmit}
use Rattle.usbip.proofs.MessageLemmas.{submit_is_read}
use Rattle.usbip.proofs.encoding.encode_submit.Goals as goal

pub returns-clause-read : goal.returns-clause-read
returns-clause-read c = λ short.
    let encoded : c.header.result.items ≡ header_bytes (submit_words c.args.submit.now) c.args.submit.now.setup = search rules in
    let read = λ (bytes : List ℕ). IsSubmit bytes c.args.submit.now in
    subst read (sym encoded) (submit_is_read c.args.submit.now (record {
      seqnum = c.header.ensures.fit 1;
      device = c.header.ensures.fit 2;
      endpoint = c.header.ensures.fit 4;
      flags = c.header.ensures.fit 5;
      room = c.header.ensures.fit 6;
      interval = c.header.ensures.fit 9;
      setup = search rules;
    }) short)
