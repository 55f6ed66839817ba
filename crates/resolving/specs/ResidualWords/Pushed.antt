-- A slot with words pushed onto it: its length, its count, and several at once.
--     length_pushed, head_pushed                       one word more
--     length_push_all, head_push_all, push_all_append  several more
-- Assumes nothing.
use Rattle.std.specs.Prelude.{ℕ, ◌+◌, ◌≡◌, refl, List, [], ◌∷◌, ◌++◌, length, get_or, set}
use Rattle.std.proofs.Common.{arith, ◌∙◌, length-set, get_or-set_same}
use Rattle.resolving.specs.ResidualWords.{pushed, push_all}

pub length_pushed : (s : List ℕ) (w : ℕ) → length (pushed s w) ≡ length s
unfolding pushed
length_pushed s w = simp length-set

pub head_pushed : (s : List ℕ) (w : ℕ) → length s ≡ 16 → get_or (pushed s w) 0 0 ≡ get_or s 0 0 + 1
unfolding pushed
head_pushed s w h = get_or-set_same (set s (get_or s 0 0 + 1) w) 0 _ 0 (simp length-set (omega arith))

pub length_push_all : (s ws : List ℕ) → length (push_all s ws) ≡ length s
unfolding push_all
length_push_all s [] = refl
length_push_all s (w ∷ ws) = length_push_all (pushed s w) ws ∙ length_pushed s w

pub head_push_all : (s ws : List ℕ) → length s ≡ 16 → get_or (push_all s ws) 0 0 ≡ get_or s 0 0 + length ws
unfolding push_all
head_push_all s [] h = omega arith
head_push_all s (w ∷ ws) h = omega (arith, head_push_all (pushed s w) ws (length_pushed s w ∙ h), head_pushed s w h)

pub push_all_append : (s a b : List ℕ) → push_all s (a ++ b) ≡ push_all (push_all s a) b
unfolding push_all
push_all_append s [] b = refl
push_all_append s (w ∷ a) b = push_all_append (pushed s w) a b
