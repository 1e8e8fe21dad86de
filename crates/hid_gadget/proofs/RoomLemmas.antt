-- Bytes that are put into a room behind others.
use Rattle.std.proofs.Common.{◌≡◌, ◌∙◌, ℕ, ◌+◌, ◌-◌, ◌≤◌, List, [], ◌++◌, length, take, drop, refl, ap, sym, arith, append_assoc}
use Rattle.std.proofs.lemmas.List.{drop-drop, length-append, length-drop, length-take-le, take_at, drop_at}
use Rattle.hid_gadget.specs.Rooms.{with_front}

-- bytes from a place on, in terms of the bytes at the front
pub put_is : (room bytes : List ℕ) (at count : ℕ) → at + length bytes ≤ length room → count ≡ length bytes
    → take at room ++ (bytes ++ drop count (drop at room)) ≡ with_front (take at room ++ bytes) room
put_is room bytes at count fits is =
    let within : at ≤ length room = omega (arith, fits) in
    let before : length (take at room) ≡ at = length-take-le at room within in
    let long : length (take at room ++ bytes) ≡ length (take at room) + length bytes = length-append (take at room) bytes in
    let end : at + count ≡ length (take at room ++ bytes) = omega (arith, before, long, is) in
    sym (append_assoc (take at room) bytes (drop count (drop at room)))
    ∙ ap (λ (rest : List ℕ). (take at room ++ bytes) ++ rest)
    (drop-drop count at room ∙ ap (λ (n : ℕ). drop n room) end)

-- no bytes leave a room as it is
pub none_in_front : (room : List ℕ) → with_front [] room ≡ room
none_in_front room = refl

-- a room with bytes at its front is as long as before
pub front_long : (bytes room : List ℕ) → length bytes ≤ length room → length (with_front bytes room) ≡ length room
front_long bytes room fits =
    let long : length (with_front bytes room) ≡ length bytes + length (drop (length bytes) room) =
    length-append bytes (drop (length bytes) room) in
    let rest : length (drop (length bytes) room) ≡ length room - length bytes = length-drop (length bytes) room in
    omega (arith, long, rest, fits)

-- bytes behind those at the front of a room stand at its front with them
pub more_in_front : (bytes more room : List ℕ) (at : ℕ) → at ≡ length bytes
    → with_front (take at (with_front bytes room) ++ more) (with_front bytes room) ≡ with_front (bytes ++ more) room
more_in_front bytes more room at is =
    let before : take at (with_front bytes room) ≡ bytes = take_at bytes (drop (length bytes) room) at (sym is) in
    let long : length (bytes ++ more) ≡ length bytes + length more = length-append bytes more in
    let past : drop (length bytes + length more) (with_front bytes room) ≡ drop (length bytes + length more) room =
    sym (drop-drop (length more) (length bytes) (with_front bytes room))
    ∙ ap (drop (length more)) (drop_at bytes (drop (length bytes) room) (length bytes) refl)
    ∙ drop-drop (length more) (length bytes) room in
    ap (λ (front : List ℕ). with_front (front ++ more) (with_front bytes room)) before
    ∙ ap (λ (rest : List ℕ). (bytes ++ more) ++ rest)
    (ap (λ (n : ℕ). drop n (with_front bytes room)) long ∙ past ∙ ap (λ (n : ℕ). drop n room) (sym long))
