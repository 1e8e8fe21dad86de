-- Tokens that are written one after the other.
use Rattle.std.proofs.Common.{◌≡◌, ◌∙◌, ap, List, ◌++◌, append_assoc}
use Rattle.json.specs.Token.{Token}

pub after_two : (old a b ta tb : List Token) → a ≡ old ++ ta → b ≡ a ++ tb → b ≡ old ++ (ta ++ tb)
after_two old a b ta tb p q = q ∙ ap (λ l. l ++ tb) p ∙ append_assoc old ta tb

pub after_three : (old a b c ta tb tc : List Token) → a ≡ old ++ ta → b ≡ a ++ tb → c ≡ b ++ tc → c ≡ old ++ (ta ++ (tb ++ tc))
after_three old a b c ta tb tc p q r = after_two old a c ta (tb ++ tc) p (after_two a b c tb tc q r)

pub after_four : (old a b c d ta tb tc td : List Token) → a ≡ old ++ ta → b ≡ a ++ tb → c ≡ b ++ tc → d ≡ c ++ td → d ≡ old ++ (ta ++ (tb ++ (tc ++ td)))
after_four old a b c d ta tb tc td p q r s = after_two old a d ta (tb ++ (tc ++ td)) p (after_three a b c d tb tc td q r s)

pub after_five : (old a b c d e ta tb tc td te : List Token) → a ≡ old ++ ta → b ≡ a ++ tb → c ≡ b ++ tc → d ≡ c ++ td → e ≡ d ++ te → e ≡ old ++ (ta ++ (tb ++ (tc ++ (td ++ te))))
after_five old a b c d e ta tb tc td te p q r s t = after_two old a e ta (tb ++ (tc ++ (td ++ te))) p (after_four a b c d e tb tc td te q r s t)
