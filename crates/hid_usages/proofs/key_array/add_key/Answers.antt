use Rattle.std.proofs.Common.{◌≡◌, ◌≢◌, ◌<◌, ◌&&◌, ◌+ℤ◌, ◌∙◌, ℕ, Bool, pos, length, sym, ap, not, Some, None, arith}
use Rattle.std.specs.List.{slice_get}
use Rattle.std.proofs.lemmas.Int.{ints}
use Rattle.hid_report_descriptor.specs.Usages.{is_rollover}
use Rattle.hid_layout.proofs.FormLemmas.{keys-length}
use Rattle.hid_snapshots.proofs.ItemLemmas.{got}
use Rattle.hid_usages.specs.KeyArrays.{keys_of_array, usages_of_array}
use Rattle.hid_usages.proofs.KeyLemmas.{no_rollover_named, no_rollover_past, no_place_added}
use Rattle.hid_usages.proofs.PressLemmas.{tells, no_key_past}
use Rattle.hid_usages.proofs.key_array.add_key.Goals as goal

pub returns-in-None-clause-rolls : goal.returns-in-None-clause-rolls
returns-in-None-clause-rolls c = ap not (sym (no_rollover_past c.args.array.now.item.now (usages_of_array c.args.array.now) c.args.number.now (λ p h is. c.in-None.ensures p (omega (arith, c.requires.few)) is)))

pub returns-in-None-clause-keys : goal.returns-in-None-clause-keys
returns-in-None-clause-keys c = λ on numbers is.
    is ∙ no_key_past c.args.array.now.item.now (usages_of_array c.args.array.now) numbers c.args.number.now c.requires.can.fits (λ p h is. c.in-None.ensures p (omega (arith, c.requires.few)) is)

pub returns-in-None-listed_usage-clause-rolls : goal.returns-in-None-listed_usage-clause-rolls
returns-in-None-listed_usage-clause-rolls c =
    let us = usages_of_array c.args.array.now in
    let number = c.in-Some.ensures.0 in
    let none : (p : ℕ) → p < length us → c.args.number.now ≢ (c.args.array.now.item.now.min +ℤ pos p) = λ p h is.
    let same : c.in-Some.place ≡ p = omega (arith, ints) in
    let there = got us p h in
    let missing : None ≡ Some there.0 = sym (sym c.listed_usage.ensures ∙ c.in-None-listed_usage.is) ∙ ap (slice_get us) same ∙ there.1 in
    absurd (cc)
    in
    ap not (sym (no_rollover_named c.args.array.now.item.now us c.args.number.now none))

pub returns-in-None-listed_usage-clause-keys : goal.returns-in-None-listed_usage-clause-keys
returns-in-None-listed_usage-clause-keys c = λ on numbers so_far.
    let us = usages_of_array c.args.array.now in
    let number = c.in-Some.ensures.0 in
    let none : (p : ℕ) → p < length us → c.args.number.now ≢ (c.args.array.now.item.now.min +ℤ pos p) = λ p h is.
    let same : c.in-Some.place ≡ p = omega (arith, ints) in
    let there = got us p h in
    let missing : None ≡ Some there.0 = sym (sym c.listed_usage.ensures ∙ c.in-None-listed_usage.is) ∙ ap (slice_get us) same ∙ there.1 in
    absurd (cc)
    in
    so_far ∙ no_place_added c.args.array.now.item.now numbers c.args.number.now (keys_of_array c.args.array.now) (λ p h. none p (omega (arith, h, keys-length c.args.array.now.item.now us)))

pub returns-then-reports_rollover-clause-rolls : goal.returns-then-reports_rollover-clause-rolls
returns-then-reports_rollover-clause-rolls c =
    let here : slice_get (usages_of_array c.args.array.now) c.in-Some.place ≡ Some c.in-Some-listed_usage.usage = sym c.listed_usage.ensures ∙ c.in-Some-listed_usage.is in
    ap not (sym (tells c.args.array.now.item.now (usages_of_array c.args.array.now) c.args.number.now c.in-Some.place c.in-Some-listed_usage.usage here c.in-Some.ensures.0
    ∙ ap (λ (b : Bool). b && is_rollover c.in-Some-listed_usage.usage) c.in-Some.ensures.1 ∙ sym c.reports_rollover.ensures ∙ c.if-reports_rollover.true))

pub returns-else-reports_rollover-clause-rolls : goal.returns-else-reports_rollover-clause-rolls
returns-else-reports_rollover-clause-rolls c =
    let here : slice_get (usages_of_array c.args.array.now) c.in-Some.place ≡ Some c.in-Some-listed_usage.usage = sym c.listed_usage.ensures ∙ c.in-Some-listed_usage.is in
    ap not (sym (tells c.args.array.now.item.now (usages_of_array c.args.array.now) c.args.number.now c.in-Some.place c.in-Some-listed_usage.usage here c.in-Some.ensures.0
    ∙ ap (λ (b : Bool). b && is_rollover c.in-Some-listed_usage.usage) c.in-Some.ensures.1 ∙ sym c.reports_rollover.ensures ∙ c.if-reports_rollover.false))

pub returns-else-reports_rollover-clause-keys : goal.returns-else-reports_rollover-clause-keys
returns-else-reports_rollover-clause-keys c = λ on numbers is. c.set_key.ensures.keys numbers is
