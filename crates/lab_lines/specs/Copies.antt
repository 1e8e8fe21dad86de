-- Texts that come several times (our choice: docs/LAB.md).
use Rattle.std.specs.Prelude.{ℕ, zero, suc, List, [], ◌++◌}

-- a text so often, one after the other
unfoldable pub copies : ℕ → List ℕ → List ℕ
copies zero text = []
copies (suc n) text = text ++ copies n text
