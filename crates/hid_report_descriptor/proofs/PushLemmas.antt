-- One more value after those that a loop has put.
use Rattle.std.proofs.Common.{◌≡◌, ℕ, ◌+◌, ◌<◌, ◌≤◌, List, [], ◌∷◌, ◌++◌, length, map, take, drop, get_or, sym, ap, ◌∙◌, arith, append_assoc, append-nil, drop-cons, add-one}
use Rattle.std.proofs.lemmas.List.{map_push, take_more, take_all, drop_all, length-drop}
use Rattle.hid_report_descriptor.specs.Usages.{Entry, entry_count, starts_from}

-- one more value is what a longer part of the list has
pub taken_more : {X : Type 0} (start before after xs : List X) (i : ℕ) (d : X) → i < length xs → before ≡ start ++ take i xs → after ≡ before ++ get_or xs i d ∷ [] → after ≡ start ++ take (i + 1) xs
taken_more start before after xs i d h b a = a ∙ ap (λ l. l ++ get_or xs i d ∷ []) b ∙ append_assoc start (take i xs) (get_or xs i d ∷ []) ∙ ap (λ l. start ++ l) (sym (take_more xs i d h))

-- one more value that is made of the list's next one is what a longer part of the mapped list has
pub mapped_more : {X Y : Type 0} (f : X → Y) (start before after : List Y) (xs : List X) (i : ℕ) (d : X) (y : Y) → i < length xs → before ≡ start ++ map f (take i xs) → y ≡ f (get_or xs i d) → after ≡ before ++ y ∷ [] → after ≡ start ++ map f (take (i + 1) xs)
mapped_more f start before after xs i d y h b e a =
    a ∙ ap (λ l. l ++ y ∷ []) b ∙ append_assoc start (map f (take i xs)) (y ∷ []) ∙ ap (λ x. start ++ (map f (take i xs) ++ x ∷ [])) e ∙ ap (λ l. start ++ l) (sym (ap (map f) (take_more xs i d h) ∙ map_push f (take i xs) (get_or xs i d)))

-- the starts that are put and those of the entries that are left are all starts, also when one more is put
pub starts_pushed : {X : Type 0} (f : X → Entry) (all before after : List ℕ) (xs : List X) (i n m : ℕ) (d : X) (e : Entry) → i < length xs → before ++ starts_from n (map f (drop i xs)) ≡ all → e ≡ f (get_or xs i d) → m ≡ entry_count e
    → after ≡ before ++ n ∷ [] → after ++ starts_from (n + m) (map f (drop (i + 1) xs)) ≡ all
starts_pushed f all before after xs i n m d e h b same count a =
    ap (λ l. l ++ starts_from (n + m) (map f (drop (i + 1) xs))) a ∙ append_assoc before (n ∷ []) (starts_from (n + m) (map f (drop (i + 1) xs))) ∙ ap (λ k. before ++ n ∷ starts_from (n + k) (map f (drop (i + 1) xs))) (count ∙ ap entry_count same)
    ∙ ap (λ l. before ++ n ∷ starts_from (n + entry_count (f (get_or xs i d))) (map f l)) (ap (λ k. drop k xs) (add-one i))
    ∙ ap (λ l. before ++ starts_from n (map f l)) (sym (drop-cons xs i d h)) ∙ b

-- after the last value all starts are put
pub starts_all : {X : Type 0} (f : X → Entry) (all after : List ℕ) (xs : List X) (i n : ℕ) → length xs ≤ i → after ++ starts_from n (map f (drop i xs)) ≡ all → after ≡ all
starts_all f all after xs i n h a = sym (append-nil after) ∙ ap (λ l. after ++ starts_from n (map f l)) (sym (drop_all i xs h)) ∙ a

-- there stays room for the values that are left
pub room_for_rest : {X : Type 0} (xs : List X) (i old new room : ℕ) → i < length xs → old + length (drop i xs) ≤ room → new ≡ old + 1 → new + length (drop (i + 1) xs) ≤ room
room_for_rest xs i old new room h fits more = omega (arith, length-drop i xs, length-drop (i + 1) xs)

-- so there is room for the next one
pub room_for_next : {X : Type 0} (xs : List X) (i len room : ℕ) → i < length xs → len + length (drop i xs) ≤ room → len < room
room_for_next xs i len room h fits = omega (arith, length-drop i xs)

-- after the last value all are there
pub mapped_all : {X Y : Type 0} (f : X → Y) (start after : List Y) (xs : List X) (i : ℕ) → length xs ≤ i → after ≡ start ++ map f (take i xs) → after ≡ start ++ map f xs
mapped_all f start after xs i h a = a ∙ ap (λ l. start ++ map f l) (take_all i xs h)
