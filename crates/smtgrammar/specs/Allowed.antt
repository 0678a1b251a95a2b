-- Which choice lets a text follow, stage by stage.
use Rattle.std.specs.Prelude.{Bool, true, cond, not, ◌&&◌, ◌||◌, ℕ, ◌+◌, ◌-◌, ◌*◌, ◌^◌, leb, ltb, eqb, get_or}
use Rattle.sorts.specs.Sorts.{is_bits, is_float, is_stored, is_word, pattern_width}
use Rattle.smtgrammar.specs.declared.Place.{Place}
use Rattle.smtgrammar.specs.declared.Line.{Line}
use Rattle.smtgrammar.specs.State.{limit, Tables}
use Rattle.smtgrammar.specs.Present.{below, some_float, some_word, some_from, joins, source, suits}

-- the format whose patterns are w bits wide
abbrev pub format_of : ℕ → ℕ
format_of w = cond (eqb w 32) 2072 (cond (eqb w 64) 2869 3904)

module _ (t : Tables) (p : Place) (l : Line) where
  -- 0 declares, 1 defines, 2 asserts
  unfoldable pub line_ok : ℕ → Bool
  line_ok v =
      cond (eqb v 0) (eqb p.part 0 && ltb p.top limit)
      (cond (eqb v 1) (leb p.part 1 && ltb p.gap limit)
      (eqb p.owed limit && ltb p.due limit))

  -- a declared number is over those before it
  abbrev pub declared_ok : ℕ → Bool
  declared_ok n = leb p.top n && ltb n limit

  -- node m can become a float that an FpToIeeeBv reads
  abbrev pub read_ok : ℕ → Bool
  read_ok m = ltb p.gap m || source t.lowest 3904 m

  -- kinds 1 to 5, and an FpToIeeeBv of some number
  unfoldable pub kind_ok : ℕ → Bool
  kind_ok k =
      (leb 1 k && leb k 5)
      || (eqb k 26 && (ltb p.gap l.node && (ltb p.next l.node || source t.lowest 3904 p.gap)))

  -- fsw has the number 0, a flag 0 to 2, an FpToIeeeBv that of its operand
  unfoldable pub number_ok : ℕ → Bool
  number_ok a =
      cond (eqb l.kind 4) (eqb a 0)
      (cond (eqb l.kind 5) (leb a 2)
      ((ltb a l.node && eqb (get_or t.kinds a 0) 0) && read_ok a))

  -- a digit of a number below 2^64 without leading zeros, or 10, its end
  unfoldable pub digit_ok : ℕ → Bool
  digit_ok d =
      cond (eqb d 10) (eqb l.left 1)
      ((eqb l.left 0 || not (eqb l.a 0)) && ltb (10 * l.a + d) (2 ^ 64))

  -- the width of an FpToIeeeBv: that of the format which its operand is obliged to, or of one that it can have
  abbrev pub pattern_ok : ℕ → Bool
  pattern_ok w =
      ((eqb w 32 || eqb w 64) || eqb w 79)
      && cond (eqb (get_or t.sorts l.a 0) 0)
      (ltb p.gap l.a || source t.lowest (format_of w) l.a)
      (eqb (get_or t.sorts l.a 0) (format_of w))

  unfoldable pub width_ok : ℕ → Bool
  width_ok w =
      cond (eqb l.kind 1) (eqb w 79 || eqb w 16)
      (cond (leb l.kind 3) (is_stored w)
      (cond (eqb l.kind 4) (eqb w 16)
      (cond (eqb l.kind 5) (eqb w 1) (pattern_ok w))))

  -- a defined number is over those before it, and passes over none that is obliged
  unfoldable pub defined_ok : ℕ → Bool
  defined_ok n =
      ((leb p.gap n && ltb n limit) && eqb (get_or t.kinds n 0) 0)
      && (ltb n p.owed || (eqb n p.owed && source t.lowest (get_or t.sorts n 0) n))

  -- the number that is obliged next can still become what it has to
  abbrev pub chance_ok : ℕ → Bool
  chance_ok s =
      (eqb p.owed limit || source t.lowest (get_or t.sorts p.owed 0) p.owed)
      || (ltb l.after p.owed || suits (get_or t.sorts p.owed 0) s)

  unfoldable pub sort_ok : ℕ → Bool
  sort_ok s =
      cond (eqb (get_or t.sorts l.node 0) 0)
      ((is_bits s || (is_float s && source t.lowest s l.node)) && chance_ok s)
      (eqb s (get_or t.sorts l.node 0))

  -- what opens a term: 9 stands for 9 and 13, 25 for 25, 28 and 29
  abbrev pub bits_ok : ℕ → ℕ → ℕ → Bool
  bits_ok k s n =
      ((eqb k 6 || ((eqb k 7 || eqb k 8) && below t.lowest s n))
      || ((eqb k 9 && ((below t.lowest 1 n && below t.lowest s n) || (eqb s 1 && some_from t.lowest 1 n)))
      || (((leb 10 k && leb k 12) && (eqb s 1 && below t.lowest 1 n)) || (eqb k 14 && some_from t.lowest s n))))
      || ((eqb k 15 && joins t.lowest s n)
      || (((leb 20 k && leb k 22) && (eqb s 1 && some_float t.lowest n)) || (eqb k 27 && (is_word s && some_float t.lowest n))))

  abbrev pub float_ok : ℕ → ℕ → ℕ → Bool
  float_ok k s n =
      (((leb 16 k && leb k 19) || (eqb k 23 || eqb k 24)) && below t.lowest s n) || (eqb k 25 && source t.lowest s n)

  unfoldable pub opening_ok : ℕ → Bool
  opening_ok k = cond (is_bits l.sort) (bits_ok k l.sort l.node) (float_ok k l.sort l.node)

  -- a first operand of sort s: of Extract; Concat; FEq, FLt, FIsNaN, FpToSbv; BvToFp; SbvToFp and FpToFp
  abbrev pub rare_taken : ℕ → Bool
  rare_taken s =
      cond (eqb l.kind 14) (is_bits s && ltb l.r s)
      (cond (eqb l.kind 15) (is_bits s && (ltb s l.sort && below t.lowest (l.sort - s) l.node))
      (cond ((leb 20 l.kind && leb l.kind 22) || eqb l.kind 27) (is_float s)
      (cond (eqb l.kind 25) (eqb s (pattern_width l.sort))
      (is_float s || (eqb l.sort 3904 && is_word s)))))

  -- an operand j of sort s is taken
  unfoldable pub sort_taken : ℕ → ℕ → Bool
  sort_taken j s =
      cond (eqb j 0)
      -- And, Xor, FAdd to FDiv, FSqrt, FRoundToIntegral; Eq; BoolAnd, BoolOr, BoolNot, Ite; the others
      (cond (((eqb l.kind 7 || eqb l.kind 8) || (leb 16 l.kind && leb l.kind 19)) || (eqb l.kind 23 || eqb l.kind 24)) (eqb s l.sort)
      (cond (eqb l.kind 9) (eqb l.sort 1 && is_bits s)
      (cond (leb 10 l.kind && leb l.kind 13) (eqb s 1)
      (rare_taken s))))
      -- Eq, FEq, FLt take what their first operand is; BoolAnd, BoolOr a bit; Concat the rest; all others their own sort
      (cond (eqb j 1 && ((eqb l.kind 9 || eqb l.kind 20) || eqb l.kind 21)) (eqb s (get_or t.sorts l.a 0))
      (cond (eqb j 1 && (eqb l.kind 10 || eqb l.kind 11)) (eqb s 1)
      (cond (eqb j 1 && eqb l.kind 15) (eqb s (l.sort - get_or t.sorts l.a 0))
      (eqb s l.sort))))

  -- node i may be operand j: it is there, below, and has a sort that is taken
  abbrev pub operand_ok : ℕ → ℕ → Bool
  operand_ok j i = (ltb i l.node && not (eqb (get_or t.kinds i 0) 0)) && sort_taken j (get_or t.sorts i 0)

  -- the word `#b1` (0), RNE (1) or RTZ (2) in the place of a first operand
  unfoldable pub word_ok : ℕ → Bool
  word_ok v =
      cond (eqb l.kind 9) (eqb v 0 && (below t.lowest 1 l.node && below t.lowest l.sort l.node))
      ((eqb v 1 || eqb v 2)
      && cond (eqb l.kind 25) (some_float t.lowest l.node || (eqb l.sort 3904 && some_word t.lowest l.node)) true)

  -- a first operand, or from 65,536 on a word: an operand where the kind is Eq or BvToFp so far
  unfoldable pub first_ok : ℕ → Bool
  first_ok v =
      cond (ltb v 65536) ((eqb l.kind 9 || eqb l.kind 25) && operand_ok 0 v)
      (word_ok (v - 65536))

  -- the high place of an Extract of that many bits
  unfoldable pub place_ok : ℕ → Bool
  place_ok hi = leb l.sort (hi + 1) && (ltb hi 80 && some_from t.lowest (hi + 1) l.node)

  -- the choice v at a stage of a definition
  abbrev pub defining_ok : ℕ → Bool
  defining_ok v =
      cond (eqb l.stage 6) (defined_ok v)
      (cond (eqb l.stage 7) (sort_ok v)
      (cond (eqb l.stage 8) (opening_ok v)
      (cond (eqb l.stage 9) (first_ok v)
      (cond (eqb l.stage 10) (operand_ok 0 v)
      (cond (eqb l.stage 11) (operand_ok 1 v)
      (cond (eqb l.stage 12) (operand_ok 2 v)
      (cond (eqb l.stage 13) (place_ok v)
      true)))))))

  -- .. at any stage
  unfoldable pub ok_at : ℕ → Bool
  ok_at v =
      cond (eqb l.stage 0) (line_ok v)
      (cond (eqb l.stage 1) (declared_ok v)
      (cond (eqb l.stage 2) (kind_ok v)
      (cond (eqb l.stage 3) (number_ok v)
      (cond (eqb l.stage 4) (digit_ok v)
      (cond (eqb l.stage 5) (width_ok v)
      (defining_ok v))))))
