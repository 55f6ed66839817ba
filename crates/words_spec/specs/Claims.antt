-- What is proved of the definitions that the contracts of the functions for C cite: statements only. The proofs are in
-- `proofs/Theorems.antt`, under the same names.
--     RecordReadsBack    a record's words are read as that record
--     CallsTell          what each call returns and leaves, by the operation's answer
--     ZeroExactly        the number returned is 0 exactly where the operation refused nothing
--     ViewShows          the words that `cspe_view` tells are the part that View hands back
--     Rows               worked calls on table B
-- Assumes nothing.
use Rattle.std.specs.Prelude.{ℕ, ◌≡◌, true, ◌&&◌, List, take, eqb}
use Rattle.numbers.specs.Number.{Bytes}
use Rattle.table.specs.Operations.{read_of, write_of}
use Rattle.monitor_spec.specs.State.{State, choose}
use Rattle.monitor_spec.specs.Open.{open_of}
use Rattle.monitor_spec.specs.Feed.{feed_of}
use Rattle.monitor_spec.specs.Try.{try_of}
use Rattle.monitor_spec.specs.Offer.{offer_of}
use Rattle.monitor_spec.specs.View.{view_of}
use Rattle.words_spec.specs.Words.{record_measured, state_in, words_of}
use Rattle.words_spec.specs.Tables.{is_done, read_call, write_call}
use Rattle.words_spec.specs.Calls.{is_given, is_offered, monitor_in, open_call, feed_call, try_call, offer_call}
use Rattle.words_spec.specs.Calls.{view_call}
use Rattle.words_spec.specs.Ways.{CallWay, OpenCallWay, TryWay, OfferWay, ViewWay, TableWay}
use Rattle.words_spec.specs.Examples.{RowsHold}

unfoldable pub RecordReadsBack : Type 0
RecordReadsBack = (s : State) → state_in (words_of s) ≡ s

-- each call goes one of its ways
pub record CallsTell : Type 0 where
  pub read : (s out w : List ℕ) → TableWay (read_of s out w) (read_call s out w)
  pub write : (l out w : List ℕ) → TableWay (write_of l out w) (write_call l out w)
  pub opening : (l r a b es w : List ℕ) → OpenCallWay r a b w (open_of l a b es w) (open_call l r a b es w)
  pub feed : (l r a b es w : List ℕ)
      → CallWay r a b w (feed_of l (monitor_in r a b) es w) (feed_call l r a b es w)
  pub trial : (l r a b r' c d es w : List ℕ)
      → TryWay r r' c d w (try_of l (monitor_in r a b) c d es w) (try_call l r a b r' c d es w)
  pub offer : (l r a b w : List ℕ) → OfferWay r a b w (offer_of l (monitor_in r a b) w) (offer_call l r a b w)
  pub view : (r a b : List ℕ) → ViewWay r (view_of (monitor_in r a b)) (view_call r a b)

-- a record that is not of five words is a refusal too
pub record ZeroExactly : Type 0 where
  pub read : (s out w : List ℕ) → Bytes s → eqb (read_call s out w).number 0 ≡ is_done (read_of s out w).answer
  pub write : (l out w : List ℕ) → eqb (write_call l out w).number 0 ≡ is_done (write_of l out w).answer
  pub opening : (l r a b es w : List ℕ)
      → eqb (open_call l r a b es w).call.number 0 ≡ (record_measured r && is_given (open_of l a b es w).answer)
  pub feed : (l r a b es w : List ℕ)
      → eqb (feed_call l r a b es w).number 0
      ≡ (record_measured r && is_given (feed_of l (monitor_in r a b) es w).answer)
  pub trial : (l r a b r' c d es w : List ℕ)
      → eqb (try_call l r a b r' c d es w).number 0
      ≡ ((record_measured r && record_measured r') && is_given (try_of l (monitor_in r a b) c d es w).answer)
  pub offer : (l r a b w : List ℕ)
      → eqb (offer_call l r a b w).number 0
      ≡ (record_measured r && is_offered (offer_of l (monitor_in r a b) w).answer)

-- of the area that is told, from its beginning
unfoldable pub ViewShows : Type 0
ViewShows =
    (r a b : List ℕ) → record_measured r ≡ true
    → take (view_call r a b).count (choose (eqb (view_call r a b).area 0) a b) ≡ view_of (monitor_in r a b)

unfoldable pub Rows : Type 0
Rows = RowsHold
