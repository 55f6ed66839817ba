-- The words that `cspe_view` tells are the part that View hands back. Assumes nothing.
use Prim.Native.Nat.{ℕ}
use mathlib.Core.Path.{◌≡◌, refl, sym, ap, ◌∙◌}
use mathlib.Core.Bool.{Bool, true, false}
use mathlib.Core.List.{List}
use lib.ListN.{length, take}
use lib.Dec.{eqb}
use borrow.Author.Tests.{eqb-true}
use Rattle.monitor_spec.specs.State.{choose}
use Rattle.monitor_spec.specs.View.{Part, view_part, words_in, view_of}
use Rattle.words_spec.specs.Words.{record_measured, state_in}
use Rattle.words_spec.specs.Calls.{viewing, view_call, monitor_in}

-- the area that is told is the part's, where the part has words
told : (p : Part) (a b : List ℕ) → take (viewing p).count (choose (eqb (viewing p).area 0) a b) ≡ words_in p a b
unfolding viewing words_in
told p a b = go (eqb p.words 0) refl
  where
    go : (x : Bool) → eqb p.words 0 ≡ x
        → take (viewing p).count (choose (eqb (viewing p).area 0) a b) ≡ words_in p a b
    go true e =
        let z = eqb-true p.words 0 e in
        ap (λ (n : ℕ). take n (choose (eqb (viewing p).area 0) a b)) z
        ∙ sym (ap (λ (n : ℕ). take n (choose (eqb p.area 0) a b)) z)
    go false e = rw (e, viewing)

pub shows : (r a b : List ℕ) → record_measured r ≡ true
    → take (view_call r a b).count (choose (eqb (view_call r a b).area 0) a b) ≡ view_of (monitor_in r a b)
unfolding view_call view_of monitor_in
shows r a b h = rw (h, view_call) (told (view_part (state_in r) (length a) (length b)) a b)
