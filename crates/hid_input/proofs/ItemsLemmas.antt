-- The row of a table with a name.
use Rattle.std.proofs.Common.{◌≡◌, ℕ, ◌+◌, ◌<◌, ◌≤◌, true, false, List, length, get_or, drop, map, Option, None, Some, ap, ◌∙◌, arith}
use Rattle.std.specs.List.{find}
use Rattle.std.specs.Option.{option_map}
use Rattle.std.specs.Str.{bytes_eq}
use Rattle.std.proofs.lemmas.List.{drop_more, length-map, get_or-map}
use Rattle.std.proofs.lemmas.Bool.{cond-true, cond-false}
use Rattle.std.proofs.Math.ListN.{drop_of_length-le}

-- the prefix of the first row from a place on that has a name
abbrev pub prefix_from : List (List ℕ × ℕ) → List ℕ → ℕ → Option ℕ
prefix_from table wanted i = option_map (λ row. row.1) (find (λ row. bytes_eq row.0 wanted) (drop i table))

row_here : (table : List (List ℕ × ℕ)) (wanted : List ℕ) (i : ℕ) (d : List ℕ × ℕ) → i < length table → bytes_eq (get_or table i d).0 wanted ≡ true
    → prefix_from table wanted i ≡ Some (get_or table i d).1
row_here table wanted i d below is =
    ap (λ (rows : List (List ℕ × ℕ)). option_map (λ (row : List ℕ × ℕ). row.1) (find (λ row. bytes_eq row.0 wanted) rows)) (drop_more table i d below)
    ∙ ap (option_map (λ (row : List ℕ × ℕ). row.1)) (cond-true (bytes_eq (get_or table i d).0 wanted) (Some (get_or table i d)) (find (λ row. bytes_eq row.0 wanted) (drop (i + 1) table)) is)

row_passed : (table : List (List ℕ × ℕ)) (wanted : List ℕ) (i : ℕ) (d : List ℕ × ℕ) → i < length table → bytes_eq (get_or table i d).0 wanted ≡ false
    → prefix_from table wanted i ≡ prefix_from table wanted (i + 1)
row_passed table wanted i d below is =
    ap (λ (rows : List (List ℕ × ℕ)). option_map (λ (row : List ℕ × ℕ). row.1) (find (λ row. bytes_eq row.0 wanted) rows)) (drop_more table i d below)
    ∙ ap (option_map (λ (row : List ℕ × ℕ). row.1)) (cond-false (bytes_eq (get_or table i d).0 wanted) (Some (get_or table i d)) (find (λ row. bytes_eq row.0 wanted) (drop (i + 1) table)) is)

-- rows that show those of a table: one with the name, and one with another
pub shown_here : {X : Type 0} (v : X → List ℕ × ℕ) (rows : List X) (wanted : List ℕ) (i : ℕ) (d : X) → i < length rows
    → bytes_eq (v (get_or rows i d)).0 wanted ≡ true → prefix_from (map v rows) wanted i ≡ Some (v (get_or rows i d)).1
shown_here v rows wanted i d below is =
    let item : get_or (map v rows) i (v d) ≡ v (get_or rows i d) = get_or-map v rows i d (v d) below in
    row_here (map v rows) wanted i (v d) (omega (arith, below, length-map rows v)) (ap (λ (row : List ℕ × ℕ). bytes_eq row.0 wanted) item ∙ is)
    ∙ ap (λ (row : List ℕ × ℕ). Some row.1) item

pub shown_passed : {X : Type 0} (v : X → List ℕ × ℕ) (rows : List X) (wanted : List ℕ) (i : ℕ) (d : X) → i < length rows
    → bytes_eq (v (get_or rows i d)).0 wanted ≡ false → prefix_from (map v rows) wanted i ≡ prefix_from (map v rows) wanted (i + 1)
shown_passed v rows wanted i d below is =
    let item : get_or (map v rows) i (v d) ≡ v (get_or rows i d) = get_or-map v rows i d (v d) below in
    row_passed (map v rows) wanted i (v d) (omega (arith, below, length-map rows v)) (ap (λ (row : List ℕ × ℕ). bytes_eq row.0 wanted) item ∙ is)

pub rows_end : (table : List (List ℕ × ℕ)) (wanted : List ℕ) (i : ℕ) → length table ≤ i → prefix_from table wanted i ≡ None
rows_end table wanted i past = ap (λ (rows : List (List ℕ × ℕ)). option_map (λ (row : List ℕ × ℕ). row.1) (find (λ row. bytes_eq row.0 wanted) rows)) (drop_of_length-le table past)
