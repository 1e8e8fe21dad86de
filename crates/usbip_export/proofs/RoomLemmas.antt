-- A header and the data behind it, at the front of a room.
use Rattle.std.proofs.Common.{◌≡◌, ◌∙◌, ℕ, ◌+◌, ◌≤◌, List, [], ◌++◌, length, take, drop, refl, ap, sym, arith, append_assoc, append-nil, ◌-◌}
use Rattle.std.proofs.lemmas.List.{drop-append-le, drop-drop, drop_all, drop_at, length-append, length-drop, length-take-le, take-append-drop, take_rest}
use Rattle.usbip.specs.declared.message.SubmitReply.{SubmitReply}
use Rattle.usbip.specs.declared.message.Reply.{Reply}
use Rattle.usbip.specs.declared.message.Reply.TheVariants as replies
use Rattle.usbip.specs.Messages.{reply_bytes}
use Rattle.hid_gadget.specs.Rooms.{with_front}

-- data behind a header of 48 bytes that is written then
pub header_in_front : (header payload room : List ℕ) → length header ≡ 48 → 48 ≤ length room
    → header ++ drop 48 (take 48 room ++ with_front payload (drop 48 room)) ≡ with_front (header ++ payload) room
header_in_front header payload room is fits =
    let before : length (take 48 room) ≡ 48 = length-take-le 48 room fits in
    let rest : drop 48 (take 48 room ++ with_front payload (drop 48 room)) ≡ with_front payload (drop 48 room) =
    drop_at (take 48 room) (with_front payload (drop 48 room)) 48 before in
    let long : 48 + length payload ≡ length (header ++ payload) = omega (arith, length-append header payload, is) in
    ap (λ (l : List ℕ). header ++ l) rest
    ∙ (sym (append_assoc header payload (drop (length payload) (drop 48 room)))
    ∙ ap (λ (l : List ℕ). (header ++ payload) ++ l)
    (drop-drop (length payload) 48 room ∙ ap (λ (n : ℕ). drop n room) long))

-- what is behind the first 48 bytes
rest-of : (room : List ℕ) → take (length room - 48) (drop 48 room) ≡ drop 48 room
rest-of room = take_rest room 48

past-of : (room : List ℕ) → drop (length room - 48) (drop 48 room) ≡ []
past-of room = drop_all (length room - 48) (drop 48 room) (omega (arith, length-drop 48 room))

-- a room whose bytes behind the first 48 were written
written-room : (payload room new : List ℕ) → new ≡ with_front payload (take (length room - 48) (drop 48 room))
    → take 48 room ++ (new ++ drop (length room - 48) (drop 48 room)) ≡ take 48 room ++ with_front payload (drop 48 room)
written-room payload room new is =
    ap (λ (l : List ℕ). take 48 room ++ l)
    (ap (λ (l : List ℕ). new ++ l) (past-of room)
    ∙ (append-nil new ∙ (is ∙ ap (λ (l : List ℕ). with_front payload l) (rest-of room))))

-- data that are written behind the first 48 bytes, and then a header into those
pub written_behind : (header payload room new after : List ℕ) → length header ≡ 48 → 48 ≤ length room
    → new ≡ with_front payload (take (length room - 48) (drop 48 room))
    → after ≡ header ++ drop 48 (take 48 room ++ (new ++ drop (length room - 48) (drop 48 room)))
    → after ≡ with_front (header ++ payload) room
written_behind header payload room new after long fits is put =
    put ∙ (ap (λ (l : List ℕ). header ++ drop 48 l) (written-room payload room new is)
    ∙ header_in_front header payload room long fits)

-- no data are written
pub unwritten : (payload room new : List ℕ) → payload ≡ []
    → new ≡ with_front payload (take (length room - 48) (drop 48 room))
    → take 48 room ++ (new ++ drop (length room - 48) (drop 48 room)) ≡ room
unwritten payload room new none is =
    written-room payload room new is
    ∙ (ap (λ (l : List ℕ). take 48 room ++ with_front l (drop 48 room)) none ∙ take-append-drop 48 room)

-- bytes at the front of the first part of a room
pub front_of_part : (bytes room : List ℕ) (n : ℕ) → length bytes ≤ n → n ≤ length room
    → with_front bytes (take n room) ++ drop n room ≡ with_front bytes room
front_of_part bytes room n short fits =
    let long : length (take n room) ≡ n = length-take-le n room fits in
    let within : length bytes ≤ length (take n room) = omega (arith, long, short) in
    append_assoc bytes (drop (length bytes) (take n room)) (drop n room)
    ∙ ap (λ (l : List ℕ). bytes ++ l)
    (sym (drop-append-le (length bytes) (take n room) (drop n room) within)
    ∙ ap (drop (length bytes)) (take-append-drop n room))

-- a reply has a header of 48 bytes
pub reply_length : (r : Reply) → length (reply_bytes r) ≡ 48
reply_length (replies.Submit r) = refl
reply_length (replies.Unlink r) = refl

-- how long an answer is
pub answer_length : (r : SubmitReply) (payload : List ℕ) (n : ℕ) → length payload ≡ n
    → 48 + n ≡ length (reply_bytes (replies.Submit r) ++ payload)
answer_length r payload n is =
    let long : length (reply_bytes (replies.Submit r) ++ payload) ≡ length (reply_bytes (replies.Submit r)) + length payload =
    length-append (reply_bytes (replies.Submit r)) payload in
    let head : length (reply_bytes (replies.Submit r)) ≡ 48 = reply_length (replies.Submit r) in
    omega (arith, long, head, is)
