-- What a run has read stands as rows, or is too much for the room.
use mathlib.Core.Path.{◌≡◌, sym, ◌∙◌}
use mathlib.Core.List.{List, ◌++◌}
use Prim.Native.Nat.{ℕ, ◌+◌, ◌*◌, ◌≤◌}
use native.Mathlib.Omega.{arith}
use lib.ListN.{length, drop}
use lib.Seq.{sets, sets-eq}
use Rattle.lists.specs.Rows.{room_of}
use Rattle.smtgrammar.specs.State.{Tables}
use Rattle.smtgrammar.specs.Rows.{rank_at, rows_below}
use Rattle.smtsound.specs.Nodes.{Nodes}
use Rattle.smtreader.specs.Padded.{padded, rows-padded}
use Rattle.smtreader.specs.Ran.{Read}
use Rattle.smtreader.specs.Ranks.{bare, Fit, Written}
use Rattle.smtreader.specs.Text.{Rows}
use Rattle.smtreader.proofs.Ranks.{rows_same, rows_long, fit_of}

module _ (t : Tables) {x : List ℕ} {n : ℕ} (h : Read x t n) where
  nodes-are : Nodes (padded t) h.last.place.part h.last.place.top h.last.place.owed
  nodes-are = rw h.tables at h.sound.nodes

  rank_is : rank_at t 65535 ≡ n
  rank_is = sym h.ranked ∙ h.count

  -- the rows fit where their number is no more than the room
  module _ (m r : ℕ) (e : r ≡ room_of m) (l : n ≤ r) where
    enough : 4 * rank_at t 65535 ≤ m
    unfolding room_of
    enough = let k = rank_is in omega arith

    pub fits_in : (k : ℕ) → length t.kinds ≡ k → Fit (bare t) k m
    fits_in k q = rw q at (fit_of t nodes-are m enough)

  module _ (old : List ℕ) (r : ℕ) (e : r ≡ room_of (length old)) where
    front : n ≤ r → sets old 0 (rows_below t 65535) ≡ rows_below t 65535 ++ drop (4 * n) old
    front l =
        let y = rows_long t 65535 in
        let k = rank_is in
        let z : 0 + length (rows_below t 65535) ≡ 4 * n = omega arith in
        rw z at (sets-eq (rows_below t 65535) old 0 (let m = enough (length old) r e l in omega arith))

    pub filled : n ≤ r → {new : List ℕ} → Written (bare t) old new → Rows x old n new
    filled l w = record {
      last = h.last;
      reads = h.reads;
      count = sym h.count;
      fits = omega arith;
      nodes = rw (h.tables, rows-padded t 65535) (w.words ∙ rw (rows_same t 65535) (front l));
    }
