-- A slot whose words are taken off again.
--     length_popped                       one word less: its length
--     popped_pushed                       the word that was pushed last, taken off
--     pop_all_last                        several less: the last of them apart
--     pop_all_push_all                    the words that were pushed, taken off
--     pop_back, pop_back_one              the same, where what is left is given by the count before
--     clean_empty                         nothing stands behind the words of an empty slot
--     clean_pushed, clean_push_all        nor behind those that are pushed
--     Popping, popping_..                 the loop of `pop_to`: the words from the c-th on are taken off; its first,
--                                         next and last turn
-- Assumes nothing.
use Rattle.std.specs.Prelude.{ℕ, zero, suc, ◌+◌, ◌-◌, ◌<◌, ◌≤◌, ◌≡◌, refl, List, [], ◌∷◌, length, get_or, set, replicate}
use Rattle.std.proofs.Common.{arith, sym, ap, ◌∙◌, length-set, get_or-set_same, get_or-set_other, set-set}
use Rattle.std.proofs.lemmas.List.{set-get_or, set_comm}
use Rattle.resolving.specs.ResidualWords.{pushed, push_all, popped, pop_all, Clean}
use Rattle.resolving.specs.ResidualWords.Pushed.{length_pushed, head_pushed, head_push_all}

pub length_popped : (s : List ℕ) → length (popped s) ≡ length s
unfolding popped
length_popped s = simp length-set

-- the word that was pushed last, taken off
taken_off : (s : List ℕ) (n w : ℕ) → get_or s 0 0 ≡ n → get_or s (n + 1) 0 ≡ 0
    → set (set (set (set s (n + 1) w) 0 (n + 1)) (n + 1) 0) 0 n ≡ s
taken_off s n w e z =
    ap (λ (l : List ℕ). set l 0 n) (set_comm (set s (n + 1) w) 0 (n + 1) (n + 1) 0 (λ q. omega (arith, q)))
    ∙ set-set (set (set s (n + 1) w) (n + 1) 0) 0 (n + 1) n
    ∙ ap (λ (l : List ℕ). set l 0 n)
    (set-set s (n + 1) w 0 ∙ ap (λ (x : ℕ). set s (n + 1) x) (sym z) ∙ set-get_or s (n + 1) 0)
    ∙ ap (λ (x : ℕ). set s 0 x) (sym e) ∙ set-get_or s 0 0

pub popped_pushed : (s : List ℕ) (w : ℕ) → Clean s → popped (pushed s w) ≡ s
unfolding popped pushed
popped_pushed s w c =
    let n = get_or s 0 0 in
    let one : n + 1 - 1 ≡ n = omega arith in
    ap (λ (x : ℕ). set (set (pushed s w) x 0) 0 (x - 1)) (head_pushed s w c.whole)
    ∙ ap (λ (x : ℕ). set (set (pushed s w) (n + 1) 0) 0 x) one
    ∙ taken_off s n w refl (c.behind (n + 1) (omega arith))

pub pop_all_last : (s : List ℕ) (k : ℕ) → pop_all s (suc k) ≡ popped (pop_all s k)
unfolding pop_all
pop_all_last s zero = refl
pop_all_last s (suc k) = pop_all_last (popped s) k

zeros_at : (n j : ℕ) → ◌≡◌ {A = ℕ} (get_or (replicate n 0) j 0) 0
zeros_at zero j = refl
zeros_at (suc n) zero = refl
zeros_at (suc n) (suc j) = zeros_at n j

pub clean_empty : Clean (replicate 16 0)
clean_empty = record { whole = refl; behind = λ j lt. zeros_at 16 j }

pub clean_pushed : (s : List ℕ) (w : ℕ) → Clean s → Clean (pushed s w)
unfolding pushed
clean_pushed s w c = record {
  whole = length_pushed s w ∙ c.whole;
  behind = λ j lt.
      let h = head_pushed s w c.whole in
      get_or-set_other (set s (get_or s 0 0 + 1) w) 0 j (get_or s 0 0 + 1) 0 (λ q. omega (arith, q, h, lt))
      ∙ get_or-set_other s (get_or s 0 0 + 1) j w 0 (λ q. omega (arith, q, h, lt)) ∙ c.behind j (omega (arith, h, lt));
}

pub clean_push_all : (s ws : List ℕ) → Clean s → Clean (push_all s ws)
unfolding push_all
clean_push_all s [] c = c
clean_push_all s (w ∷ ws) c = clean_push_all (pushed s w) ws (clean_pushed s w c)

pub pop_all_push_all : (s ws : List ℕ) → Clean s → pop_all (push_all s ws) (length ws) ≡ s
unfolding push_all pop_all
pop_all_push_all s [] c = refl
pop_all_push_all s (w ∷ ws) c =
    pop_all_last (push_all (pushed s w) ws) (length ws)
    ∙ ap popped (pop_all_push_all (pushed s w) ws (clean_pushed s w c)) ∙ popped_pushed s w c

pub pop_back : (s ws : List ℕ) → Clean s → pop_all (push_all s ws) (get_or (push_all s ws) 0 0 - get_or s 0 0) ≡ s
pop_back s ws c =
    let count : get_or (push_all s ws) 0 0 - get_or s 0 0 ≡ length ws = omega (arith, head_push_all s ws c.whole) in
    ap (pop_all (push_all s ws)) count ∙ pop_all_push_all s ws c

pub pop_back_one : (s : List ℕ) (w : ℕ) → Clean s → pop_all (pushed s w) (get_or (pushed s w) 0 0 - get_or s 0 0) ≡ s
unfolding push_all
pop_back_one s w c = pop_back s (w ∷ []) c

pub record Popping (old : List ℕ) (n : ℕ) (s : List ℕ) (c : ℕ) : Type 0 where
  pub whole : length s ≡ 16
  pub head : get_or s 0 0 ≡ c
  pub few : c ≤ get_or old 0 0
  pub far : get_or old 0 0 - c ≤ get_or old 0 0 - n
  pub same : s ≡ pop_all old (get_or old 0 0 - c)

pub popping_first : (old : List ℕ) (n : ℕ) → length old ≡ 16 → Popping old n old (get_or old 0 0)
unfolding pop_all
popping_first old n h =
    let none : 0 ≡ get_or old 0 0 - get_or old 0 0 = omega arith in
    record {
      whole = h;
      head = refl;
      few = omega arith;
      far = omega arith;
      same = ap (pop_all old) none;
    }

pub popping_next : (old : List ℕ) (n : ℕ) (s : List ℕ) (c : ℕ) → Popping old n s c → n < c
    → Popping old n (set (set s c 0) 0 (c - 1)) (c - 1)
unfolding popped
popping_next old n s c p lt =
    let k = get_or old 0 0 - c in
    let more : suc k ≡ get_or old 0 0 - (c - 1) = omega (arith, p.few, lt) in
    let one : set (set s c 0) 0 (c - 1) ≡ popped s = ap (λ (x : ℕ). set (set s x 0) 0 (x - 1)) (sym p.head) in
    record {
      whole = ap length one ∙ length_popped s ∙ p.whole;
      head = get_or-set_same (set s c 0) 0 (c - 1) 0 (simp length-set (omega (arith, p.whole)));
      few = omega (arith, p.few);
      far = omega (arith, p.far, p.few, lt);
      same = one ∙ ap popped p.same ∙ sym (pop_all_last old k) ∙ ap (pop_all old) more;
    }

pub popping_last : (old : List ℕ) (n : ℕ) (s : List ℕ) (c : ℕ) → Popping old n s c → c ≤ n
    → s ≡ pop_all old (get_or old 0 0 - n)
popping_last old n s c p le =
    let all : get_or old 0 0 - c ≡ get_or old 0 0 - n = omega (arith, p.far, le) in p.same ∙ ap (pop_all old) all
