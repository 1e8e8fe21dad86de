use Rattle.std.proofs.Common.{ℕ, Bor, rules, tests}
use Rattle.std.specs.Prelude.{◌==◌}
use Rattle.std.specs.List.{zip}
use Rattle.std.proofs.lemmas.Iterator.{YieldsList, YieldsList-from_slice, YieldsList-from_zip}
use Rattle.std.proofs.lemmas.Iterator.Consumers.{YieldsList-at}
use Rattle.std.proofs.lemmas.Iterator.Search.{all_from_yields_List}
use Rattle.hid_input.specs.Dump.{character_of}
use Rattle.hid_input.proofs.dump.each_shown.Goals as goal

pub returns : goal.returns
returns c =
    let road : YieldsList _ (λ (pair : Bor ℕ × Bor ℕ). (pair.0.now, pair.1.now)) c.zip.result (zip c.args.characters.now c.args.bytes.now) =
    YieldsList-from_zip
    (YieldsList-at c.zip.ensures.first (YieldsList-from_slice c.args.characters.now c.iter.ensures.rest))
    (YieldsList-at c.zip.ensures.second (YieldsList-from_slice c.args.bytes.now c.iter-2.ensures.rest)) in
    all_from_yields_List (λ (pair : ℕ × ℕ). pair.0 == character_of pair.1) c.all.new.self _ c.all.result c.all.ensures.ran road (λ x b q k. search (rules, tests))
