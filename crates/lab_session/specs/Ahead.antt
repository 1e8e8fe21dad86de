-- Bytes that were read and not taken (our choice: docs/LAB.md).
use Rattle.std.specs.Prelude.{ℕ, List, drop}
use Rattle.lab_session.specs.declared.ahead.Ahead.{Ahead}

-- the bytes that were read and not taken
abbrev pub unread : Ahead → List ℕ
unread ahead = drop ahead.from ahead.bytes.items
