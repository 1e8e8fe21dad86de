use Rattle.std.proofs.Common.{rules, ◌<◌, ◌^◌, ◌-◌, ◌<ℤ◌, ◌≤ℤ◌, neg_ℤ, pos, ℕ}
use Rattle.hid_fields.proofs.ValueLemmas.{first_of_lower, first_of_upper, all_within}
use Rattle.hid_fields.proofs.value.null_pattern.Goals as goal

pub returns-in-Some-clause-some : goal.returns-in-Some-clause-some
returns-in-Some-clause-some c =
    let half : c.in-Some.pattern < 2 ^ (c.args.width - 1) = rw (← c.pattern_count-half.ensures.value) c.in-Some.ensures.some.0 in
    let over : c.args.max <ℤ pos c.in-Some.pattern = search rules in
    let least : (lower : ℕ) → lower < c.in-Some.pattern → pos lower ≤ℤ c.args.max = search rules in
    first_of_lower _ _ _ _ c.requires.some (search rules) half over least

pub returns-in-None-clause-some : goal.returns-in-None-clause-some
returns-in-None-clause-some c =
    let under : neg_ℤ (pos (2 ^ (c.args.width - 1))) <ℤ c.args.min = rw (← c.pattern_count-half.ensures.value) (search rules) in
    let least : (lower : ℕ) → lower < 2 ^ (c.args.width - 1) → pos lower ≤ℤ c.args.max = rw (← c.pattern_count-half.ensures.value) (search rules) in
    first_of_upper _ _ _ _ c.requires.some (search rules) c.pattern_count-half.ensures.value under least

pub returns-in-None-2-clause-none : goal.returns-in-None-2-clause-none
returns-in-None-2-clause-none c =
    let under : c.args.min ≤ℤ neg_ℤ (pos (2 ^ (c.args.width - 1))) = rw (← c.pattern_count-half.ensures.value) (search rules) in
    let least : (lower : ℕ) → lower < 2 ^ (c.args.width - 1) → pos lower ≤ℤ c.args.max = rw (← c.pattern_count-half.ensures.value) (search rules) in
    all_within _ _ _ c.requires.some (search rules) under least
