-- The descriptors that are left have the other endpoints.
use Rattle.std.proofs.Common.{◌≡◌, ℕ, zero, suc, ◌-◌, ◌≤◌, List, [], ◌++◌, length, take, drop, refl, sym, ap, ◌∙◌, subst, arith, append-nil, append_assoc, Option, true, false}
use Rattle.std.proofs.lemmas.Bool.{cond-true, cond-false}
use Rattle.std.proofs.lemmas.List.{length-drop}
use Rattle.usb_capture.proofs.GatherLemmas.{slice_from}
use Rattle.hid_capture.specs.declared.configuration.Configuration.{Configuration}
use Rattle.hid_capture.specs.declared.configuration.InterruptEndpoint.{InterruptEndpoint}
use Rattle.hid_capture.specs.Descriptors.{byte, has_descriptor, interface_after, endpoint_at, endpoints_in}

-- a descriptor comes, and others after it
pub next_in : (n : ℕ) (configuration : Configuration) (here : Option ℕ) (rest : List ℕ) → has_descriptor rest ≡ true
    → endpoints_in (suc n) configuration here rest
    ≡ endpoint_at configuration (interface_after here rest) rest ++ endpoints_in n configuration (interface_after here rest) (drop (byte rest 0) rest)
unfolding endpoints_in
next_in n configuration here rest is = cond-true (has_descriptor rest) _ _ is

-- no descriptor comes
none_in : (n : ℕ) (configuration : Configuration) (here : Option ℕ) (rest : List ℕ) → has_descriptor rest ≡ false → endpoints_in n configuration here rest ≡ []
unfolding endpoints_in
none_in zero configuration here rest is = refl
none_in (suc n) configuration here rest is = cond-false (has_descriptor rest) _ _ is

-- what was found, and what is left, are all
abbrev pub Finds : Configuration → Option ℕ → List ℕ → List InterruptEndpoint → List InterruptEndpoint → Type 0
Finds configuration here rest found all = (n : ℕ) × (length rest ≤ n) × (found ++ endpoints_in n configuration here rest ≡ all)

pub found_all : (configuration : Configuration) (here : Option ℕ) (rest : List ℕ) (found all : List InterruptEndpoint) → has_descriptor rest ≡ false
    → Finds configuration here rest found all → found ≡ all
found_all configuration here rest found all is f =
    sym (append-nil found) ∙ ap (λ l. found ++ l) (sym (none_in f.0 configuration here rest is)) ∙ f.2

found_by : (n : ℕ) (configuration : Configuration) (here : Option ℕ) (rest : List ℕ) (found all : List InterruptEndpoint) → has_descriptor rest ≡ true
    → 2 ≤ byte rest 0 → byte rest 0 ≤ length rest → length rest ≤ n → found ++ endpoints_in n configuration here rest ≡ all
    → Finds configuration (interface_after here rest) (drop (byte rest 0) rest) (found ++ endpoint_at configuration (interface_after here rest) rest) all
found_by zero configuration here rest found all is least within most same = absurd (omega arith)
found_by (suc n) configuration here rest found all is least within most same = (
  n,
  omega (arith, length-drop (byte rest 0) rest),
  append_assoc found (endpoint_at configuration (interface_after here rest) rest) (endpoints_in n configuration (interface_after here rest) (drop (byte rest 0) rest))
      ∙ ap (λ l. found ++ l) (sym (next_in n configuration here rest is)) ∙ same,
)

pub found_more : (configuration : Configuration) (here : Option ℕ) (rest : List ℕ) (found all : List InterruptEndpoint) → has_descriptor rest ≡ true
    → 2 ≤ byte rest 0 → byte rest 0 ≤ length rest → Finds configuration here rest found all
    → Finds configuration (interface_after here rest) (take (length rest - byte rest 0) (drop (byte rest 0) rest))
    (found ++ endpoint_at configuration (interface_after here rest) rest) all
found_more configuration here rest found all is least within f =
    subst (λ (l : List ℕ). Finds configuration (interface_after here rest) l (found ++ endpoint_at configuration (interface_after here rest) rest) all)
    (sym (slice_from (byte rest 0) rest)) (found_by f.0 configuration here rest found all is least within f.1 f.2)

-- a step, by the values of the program
pub found_step : (configuration : Configuration) (here next : Option ℕ) (rest : List ℕ) (found found' all : List InterruptEndpoint) (size : ℕ)
    → has_descriptor rest ≡ true → 2 ≤ byte rest 0 → byte rest 0 ≤ length rest → next ≡ interface_after here rest → size ≡ byte rest 0
    → found' ≡ found ++ endpoint_at configuration next rest → Finds configuration here rest found all
    → Finds configuration next (take (length rest - size) (drop size rest)) found' all
found_step configuration here next rest found found' all size is least within after sized more f =
    let whole = found_more configuration here rest found all is least within f in
    let cut = subst (λ (k : ℕ). Finds configuration (interface_after here rest) (take (length rest - k) (drop k rest)) (found ++ endpoint_at configuration (interface_after here rest) rest) all) (sym sized) whole in
    let placed = subst (λ (h : Option ℕ). Finds configuration h (take (length rest - size) (drop size rest)) (found ++ endpoint_at configuration h rest) all) (sym after) cut in
    subst (λ (l : List InterruptEndpoint). Finds configuration next (take (length rest - size) (drop size rest)) l all) (sym more) placed
