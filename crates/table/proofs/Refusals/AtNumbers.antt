-- A number list is refused with 3 or 5 exactly on that refusal's condition, and so with any number
-- (01, "When the monitor declines": "Each is given exactly on its condition").
--     open_cut, cut_open           a beginning of a table ends early, and nothing else does
--     refused_out, refused_in      all refusals of a number list
-- Assumes nothing.
use Rattle.std.specs.Prelude.{ℕ, suc, ◌+◌, ◌≡◌, refl, List, [], ◌∷◌, ◌++◌, length}
use Rattle.std.proofs.Common.{arith, sym, ap, ◌∙◌, subst, append-nil}
use Rattle.table.specs.Table.{Table}
use Rattle.table.specs.Tokens.{Tokens, list_tokens}
use Rattle.table.specs.Parser.{Result, got, refused}
use Rattle.table.specs.Parser.Mark.{Mark, numbers}
use Rattle.table.proofs.Parser.Sees.{Whole}
use Rattle.table.specs.Grammar.{table}
use Rattle.table.specs.Marks.{table_marks, Open, Fits}
use Rattle.table.proofs.Marks.Whole.{TableR, sees_table}
use Rattle.table.specs.Judge.{declined, judge_list}
use Rattle.table.specs.Refusals.{Truncated, OutOfRange, Refused, too_long, truncated_list, out_of_range}
use Rattle.table.specs.Refusals.{trailing_input, bad_reference, too_wide, too_many_branches}
use Rattle.table.proofs.Refusals.Stops.{Stops, cut, off, stops}
use Rattle.table.proofs.Refusals.Exact.{Declined, unread, trails, unlinked, broad, branching, long, declined_out}
use Rattle.table.proofs.Refusals.Exact.{declined_in}

length_numbers : (M : List Mark) → length (numbers M) ≡ length M
length_numbers [] = refl
length_numbers (m ∷ M) = ap suc (length_numbers M)

-- ---- a beginning ends early
pub open_cut : (l : List ℕ) → Open l → table (list_tokens 0 l) ≡ refused 3 (length l)
open_cut l o =
    let e = sees_table.cut_in 0 o.table o.front o.at o.back (o.shape, sym o.marks) o.pass in
    let n = length_numbers o.front in
    let z : 0 + length o.front ≡ length (numbers o.front) = omega arith in
    rw o.list (e ∙ ap (λ (k : ℕ). refused 3 k) z)

pub cut_open : (l : List ℕ) (k : ℕ) → table (list_tokens 0 l) ≡ refused 3 k → Open l
cut_open l k e =
    let p = sees_table.cut_out 0 l k e in
    record {
      table = p.what;
      front = p.front;
      at = p.at;
      back = p.back;
      shape = p.writes.0;
      marks = sym p.writes.1;
      pass = p.pass;
      list = p.list;
    }

open_fits : (l : List ℕ) → Open l → Fits l
open_fits l o =
    record {
      table = o.table;
      front = o.front;
      back = o.at ∷ o.back;
      shape = o.shape;
      marks = o.marks;
      pass = o.pass;
      list = o.list;
    }

-- what fits is not refused with 5
fits_not_off : (l : List ℕ) (k : ℕ) → Fits l → table (list_tokens 0 l) ≡ refused 5 k → ⊥
fits_not_off l k f e = go f.back f.marks
  where
    go : (back : List Mark) → table_marks f.table ≡ f.front ++ back → ⊥
    go [] m =
        let g = sees_table.got_in 0 f.table f.front [] (f.shape, sym (m ∙ append-nil f.front)) f.pass in
        let h = ap (λ (x : List ℕ). table (list_tokens 0 x)) (append-nil (numbers f.front)) in
        let q = sym e ∙ ap (λ (x : List ℕ). table (list_tokens 0 x)) f.list ∙ sym h ∙ g in
        let z : ◌≡◌ {A = ℕ} 0 1 = cc in
        omega arith
    go (a ∷ back) m =
        let o : Open l = record {
          table = f.table;
          front = f.front;
          at = a;
          back = back;
          shape = f.shape;
          marks = m;
          pass = f.pass;
          list = f.list;
        } in
        let q = sym e ∙ open_cut l o in
        let z : ◌≡◌ {A = ℕ} 5 3 = cc in
        omega arith

-- ---- a list that ends in x, cut
pub data Snoc (a b front : List ℕ) (x : ℕ) : Type 0 where
  at_end : b ≡ [] → Snoc a b front x
  inside : (c : List ℕ) → b ≡ c ++ (x ∷ []) → front ≡ a ++ c → Snoc a b front x

snoc : (a b front : List ℕ) (x : ℕ) → a ++ b ≡ front ++ (x ∷ []) → Snoc a b front x
snoc [] b front x e = inside front e refl
snoc (y ∷ a) b [] x e = let f : a ++ b ≡ [] = cc in at_end (nil_right a f)
  where
    nil_right : (c : List ℕ) → c ++ b ≡ [] → b ≡ []
    nil_right [] h = h
    nil_right (v ∷ c) h = let z : ◌≡◌ {A = ℕ} 0 1 = cc in absurd (omega arith)
snoc (y ∷ a) b (v ∷ front) x e =
    let f : a ++ b ≡ front ++ (x ∷ []) = cc in
    let g : y ≡ v = cc in
    go g (snoc a b front x f)
  where
    go : y ≡ v → Snoc a b front x → Snoc (y ∷ a) b (v ∷ front) x
    go g (at_end h) = at_end h
    go g (inside c h k) = inside c h (cc)

module _ (l : List ℕ) (at : ℕ) (s : OutOfRange l at) where
  abbrev f : List ℕ
  f = s.front

  abbrev x : ℕ
  x = s.number

  short : table (list_tokens 0 f) ≡ refused 3 (length f)
  short = open_cut f s.before

  done : table (list_tokens 0 (f ++ (x ∷ s.more))) ≡ refused 5 (length f) → table (list_tokens 0 l) ≡ refused 5 at
  done e = rw (s.numbers, s.place) e

  read_case : (t : Table) (rest : Tokens) → table (list_tokens 0 (f ++ (x ∷ []))) ≡ got t rest → ⊥
  read_case t rest e = go (snoc (numbers w.marks) w.more f x (sym w.list))
    where
      w : Whole TableR 0 (f ++ (x ∷ [])) t rest
      w = sees_table.got_out 0 (f ++ (x ∷ [])) t rest e

      go : Snoc (numbers w.marks) w.more f x → ⊥
      go (at_end h) =
          s.broken
          (record {
            table = t;
            front = w.marks;
            back = [];
            shape = w.writes.0;
            marks = sym w.writes.1 ∙ sym (append-nil w.marks);
            pass = w.pass;
            list = w.list ∙ ap (λ (y : List ℕ). numbers w.marks ++ y) h ∙ append-nil (numbers w.marks);
          })
      go (inside c h k) =
          let g = sees_table.got_in 0 t w.marks c w.writes w.pass in
          let q = sym short ∙ ap (λ (y : List ℕ). table (list_tokens 0 y)) k ∙ g in
          let z : ◌≡◌ {A = ℕ} 0 1 = cc in
          omega arith

  off_case : (k : ℕ) → Stops (f ++ (x ∷ [])) 5 k → table (list_tokens 0 l) ≡ refused 5 at
  off_case k (cut e h) = absurd (omega arith)
  off_case k (off e front y more w p c g) = go (snoc front (y ∷ more) f x (sym w))
    where
      go : Snoc front (y ∷ more) f x → table (list_tokens 0 l) ≡ refused 5 at
      go (at_end h) = let z : ◌≡◌ {A = ℕ} 0 1 = cc in absurd (omega arith)
      go (inside [] h j) =
          let same : y ≡ x = cc in
          let j' : f ≡ front = j ∙ append-nil front in
          let m = ap (λ (z : List ℕ). length z) j' in
          let n : k ≡ length f = p ∙ sym m in
          done (subst (λ (z : List ℕ). table (list_tokens 0 (z ++ (x ∷ s.more))) ≡ refused 5 (length f)) (sym j')
          (subst (λ (z : ℕ). table (list_tokens 0 (front ++ (z ∷ s.more))) ≡ refused 5 (length f)) same
          (g s.more ∙ ap (λ (z : ℕ). refused 5 z) n)))
      go (inside (v ∷ b) h j) =
          let same : y ≡ v = cc in
          let j' = subst (λ (z : ℕ). f ≡ front ++ (z ∷ b)) (sym same) j in
          let q = sym short ∙ ap (λ (z : List ℕ). table (list_tokens 0 z)) j' ∙ g b in
          let z : ◌≡◌ {A = ℕ} 3 5 = cc in
          absurd (omega arith)

  pub off_in : table (list_tokens 0 l) ≡ refused 5 at
  off_in = go (table (list_tokens 0 (f ++ (x ∷ [])))) refl
    where
      by : (n k : ℕ) → table (list_tokens 0 (f ++ (x ∷ []))) ≡ refused n k → Stops (f ++ (x ∷ [])) n k
          → table (list_tokens 0 l) ≡ refused 5 at
      by n k e (cut h j) =
          absurd (s.broken
          (open_fits (f ++ (x ∷ []))
          (cut_open (f ++ (x ∷ [])) k (subst (λ (m : ℕ). table (list_tokens 0 (f ++ (x ∷ []))) ≡ refused m k) h e))))
      by n k e (off h front y more w p c g) = off_case k (off refl front y more w p c g)

      go : (r : Result Table) → table (list_tokens 0 (f ++ (x ∷ []))) ≡ r → table (list_tokens 0 l) ≡ refused 5 at
      go (got t rest) e = absurd (read_case t rest e)
      go (refused n k) e = by n k e (stops (f ++ (x ∷ [])) n k e)

-- ---- both ways
pub cut_exact_out : (l : List ℕ) (at : ℕ) → table (list_tokens 0 l) ≡ refused 3 at → Truncated l at
cut_exact_out l at e =
    let o = cut_open l at e in
    let q = sym e ∙ open_cut l o in
    let z : at ≡ length l = cc in
    record { within = o; place = z }

pub cut_exact_in : (l : List ℕ) (at : ℕ) → Truncated l at → table (list_tokens 0 l) ≡ refused 3 at
cut_exact_in l at c = rw c.place (open_cut l c.within)

pub off_exact_out : (l : List ℕ) (at : ℕ) → table (list_tokens 0 l) ≡ refused 5 at → OutOfRange l at
off_exact_out l at e = go (stops l 5 at e)
  where
    go : Stops l 5 at → OutOfRange l at
    go (cut h j) = absurd (omega arith)
    go (off h front y more w p c g) =
        record {
          front = front;
          number = y;
          more = more;
          numbers = w;
          before = cut_open front at c;
          broken = λ k. fits_not_off (front ++ (y ∷ [])) at k (g []);
          place = p;
        }

pub off_exact_in : (l : List ℕ) (at : ℕ) → OutOfRange l at → table (list_tokens 0 l) ≡ refused 5 at
off_exact_in l at s = off_in l at s

-- ---- all refusals of a number list
unread_out : (l : List ℕ) (n at : ℕ) → table (list_tokens 0 l) ≡ refused n at → Stops l n at → Refused l n at
unread_out l n at e (cut h j) =
    truncated_list h (cut_exact_out l at (subst (λ (m : ℕ). table (list_tokens 0 l) ≡ refused m at) h e))
unread_out l n at e (off h front y more w p c g) =
    out_of_range h (off_exact_out l at (subst (λ (m : ℕ). table (list_tokens 0 l) ≡ refused m at) h e))

pub refused_out : (l : List ℕ) (n at : ℕ) → judge_list l ≡ declined n at → Refused l n at
refused_out l n at h = go (declined_out l n at h)
  where
    go : Declined l n at → Refused l n at
    go (unread e) = unread_out l n at e (stops l n at e)
    go (trails e k) = trailing_input e k
    go (unlinked e k) = bad_reference e k
    go (broad e k) = too_wide e k
    go (branching e k) = too_many_branches e k
    go (long e k) = too_long e k

pub refused_in : (l : List ℕ) (n at : ℕ) → Refused l n at → judge_list l ≡ declined n at
refused_in l n at (too_long e k) = declined_in l n at (long e k)
refused_in l n at (truncated_list e k) = rw e (declined_in l 3 at (unread (cut_exact_in l at k)))
refused_in l n at (out_of_range e k) = rw e (declined_in l 5 at (unread (off_exact_in l at k)))
refused_in l n at (trailing_input e k) = declined_in l n at (trails e k)
refused_in l n at (bad_reference e k) = declined_in l n at (unlinked e k)
refused_in l n at (too_wide e k) = declined_in l n at (broad e k)
refused_in l n at (too_many_branches e k) = declined_in l n at (branching e k)
