-- What is in force after a Pop is what was in force before its matching Push.
use Rattle.std.proofs.Common.{◌≡◌, ◌≢◌, ℕ, zero, suc, ◌+◌, Bool, true, false, List, [], ◌∷◌, ◌++◌, refl, ◌∙◌, ap, arith}
use Rattle.std.specs.Prelude.{count_by}
use Rattle.std.proofs.lemmas.Grind.{common_steps}
use Rattle.std.proofs.lemmas.Bool.Decides.{nat_tests}
use Rattle.hid_items.specs.ItemEncoding.{prefix_of}
use Rattle.hid_report_descriptor.specs.Items.{EncodedItem, is, PUSH, POP}
use Rattle.hid_report_descriptor.specs.Matching.{waiting_after}
use Rattle.hid_report_descriptor.specs.Globals.{look_back, in_force, IsBetween}

at_push : (prefix : ℕ) (push : EncodedItem) (before : List EncodedItem) → is PUSH push ≡ true → is POP push ≡ false → look_back prefix 1 (push ∷ before) ≡ look_back prefix 0 before
at_push prefix push before h n = grind (arith, common_steps, nat_tests)

pass : (prefix k j : ℕ) (item : EncodedItem) (before : List EncodedItem) → waiting_after PUSH POP (suc k) item ≡ j → look_back prefix (suc k) (item ∷ before) ≡ look_back prefix j before
pass prefix k j item before e = grind (arith, common_steps, nat_tests, ap (λ w. look_back prefix w before) e)

push_no_pop : (item : EncodedItem) → is PUSH item ≡ true → is POP item ≡ false
push_no_pop item h = grind (arith, common_steps, nat_tests)

-- the rest of what stands between
later : (more less : ℕ) (item : EncodedItem) (rest : List EncodedItem) → IsBetween more (item ∷ rest) → ((near : List EncodedItem) → count_by (is PUSH) near ≡ less + count_by (is POP) near → count_by (is PUSH) (item ∷ near) ≡ more + count_by (is POP) (item ∷ near)) → (count_by (is PUSH) (item ∷ rest) ≡ more + count_by (is POP) (item ∷ rest) → count_by (is PUSH) rest ≡ less + count_by (is POP) rest) → IsBetween less rest
later more less item rest b f g = record {
  as_many = g b.as_many;
  no_later = λ near far push e p n. b.no_later (item ∷ near) far push (ap (λ t. item ∷ t) e) p (f near n);
}

-- one item further back, by what it is
between_step : (c o : Bool) (prefix k : ℕ) (item push : EncodedItem) (rest before : List EncodedItem) → is POP item ≡ c → is PUSH item ≡ o → IsBetween k (item ∷ rest) → ((j : ℕ) → IsBetween j rest → look_back prefix (suc j) (rest ++ push ∷ before) ≡ look_back prefix 0 before) → look_back prefix (suc k) (item ∷ (rest ++ push ∷ before)) ≡ look_back prefix 0 before
between_step true true prefix k item push rest before e f b ih = absurd (let q : is POP item ≡ false = push_no_pop item f in cc)
between_step true false prefix k item push rest before e f b ih =
    pass prefix k (suc (k + 1)) item (rest ++ push ∷ before) (grind (arith, common_steps, nat_tests)) ∙ ih (k + 1) (later k (k + 1) item rest b (λ near n. grind (arith, common_steps)) (λ n. grind (arith, common_steps)))
between_step false false prefix k item push rest before e f b ih =
    pass prefix k (suc k) item (rest ++ push ∷ before) (grind (arith, common_steps, nat_tests)) ∙ ih k (later k k item rest b (λ near n. grind (arith, common_steps)) (λ n. grind (arith, common_steps)))
between_step false true prefix zero item push rest before e f b ih = absurd (b.no_later [] rest item refl f refl)
between_step false true prefix (suc k) item push rest before e f b ih =
    pass prefix (suc k) (suc k) item (rest ++ push ∷ before) (grind (arith, common_steps, nat_tests)) ∙ ih k (later (suc k) k item rest b (λ near n. grind (arith, common_steps)) (λ n. grind (arith, common_steps)))

-- looking back from a Pop goes on before its matching Push
pub look_back_between : (prefix k : ℕ) (between before : List EncodedItem) (push : EncodedItem) → is PUSH push ≡ true → IsBetween k between → look_back prefix (suc k) (between ++ push ∷ before) ≡ look_back prefix 0 before
look_back_between prefix k [] before push h b =
    let z : k ≡ 0 = omega (arith, b.as_many) in
    ap (λ j. look_back prefix (suc j) (push ∷ before)) z ∙ at_push prefix push before h (push_no_pop push h)
look_back_between prefix k (item ∷ rest) before push h b =
    between_step (is POP item) (is PUSH item) prefix k item push rest before refl refl b (λ j bj. look_back_between prefix j rest before push h bj)

-- the global in force after a Pop is the one before its matching Push
pub in_force_behind_pop : (prefix : ℕ) (pop push : EncodedItem) (between before : List EncodedItem) → prefix ≢ POP → prefix_of pop ≡ POP → is PUSH push ≡ true → IsBetween 0 between → in_force prefix (pop ∷ (between ++ push ∷ before)) ≡ in_force prefix before
in_force_behind_pop prefix pop push between before d p h b =
    let q : look_back prefix 1 (between ++ push ∷ before) ≡ look_back prefix 0 before = look_back_between prefix 0 between before push h b in
    grind (arith, common_steps, nat_tests)
