-- A property of each of six pushed values holds of their list.
use Rattle.std.proofs.Common.{◌≡◌, List, [], ◌∷◌, ◌++◌, ap, ◌∙◌}

one_more : {K : Type 0} (before after seen : List K) (x y : K) → after ≡ before ++ x ∷ [] → before ≡ seen → x ≡ y → after ≡ seen ++ y ∷ []
one_more before after seen x y pushed b e = pushed ∙ ap (λ l. l ++ x ∷ []) b ∙ ap (λ z. seen ++ z ∷ []) e

pub six_pushed : {K : Type 0} {none one two three four five six : List K} {a b c d e f a' b' c' d' e' f' : K}
    → none ≡ [] → one ≡ none ++ a ∷ [] → two ≡ one ++ b ∷ [] → three ≡ two ++ c ∷ [] → four ≡ three ++ d ∷ [] → five ≡ four ++ e ∷ [] → six ≡ five ++ f ∷ []
    → a ≡ a' → b ≡ b' → c ≡ c' → d ≡ d' → e ≡ e' → f ≡ f' → six ≡ a' ∷ b' ∷ c' ∷ d' ∷ e' ∷ f' ∷ []
six_pushed n p1 p2 p3 p4 p5 p6 q1 q2 q3 q4 q5 q6 =
    one_more _ _ _ _ _ p6 (one_more _ _ _ _ _ p5 (one_more _ _ _ _ _ p4 (one_more _ _ _ _ _ p3 (one_more _ _ _ _ _ p2 (one_more _ _ _ _ _ p1 n q1) q2) q3) q4) q5) q6
