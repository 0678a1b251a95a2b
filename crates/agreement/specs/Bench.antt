-- THEOREM 4: THE EXAMPLES FROM THE BENCH HOLD.
-- P1 to P12 of the manual, section 10, are one table, and `bench` is the one statement that all of it holds. A row is as a listing has it: number, kind, a, b, c
use Rattle.std.specs.Prelude.{◌≡◌, true, false, List, [], ◌∷◌, ℕ, ◌+◌, ◌*◌, ◌^◌, ◌<◌, length, replicate, get_or, take, ltb, Ok}
use Rattle.std.proofs.Math.Path.{refl}
use Rattle.std.proofs.Common.{arith, lt-ltb, ltb-true}
use Rattle.texts.specs.Bytes as texts
use Rattle.texts.specs.Letters.{cut, trim_of}
use Rattle.texts.specs.Places.{place_of}
use Rattle.forms.specs.declared.Instruction.{Instruction}
use Rattle.forms.specs.Operands.{ranged_is, spelled_is, slot_of, width_of}
use Rattle.forms.specs.Names.{names, family_of}
use Rattle.forms.specs.Families.{form_of}
use Rattle.forms.specs.Classify.{classify_of}
use Rattle.details.specs.Takes as takes
use Rattle.details.specs.Why.{kind_off, address_off, width_off, unknown_name, wrong_count, wrong_kind, unknown_address, wrong_width, reason_of, why_of}
use Rattle.lists.specs.Rows.{Row, row, stored, wrote, up, room_of}
use Rattle.lists.specs.Steps.{Built, ◌▸◌, gives}
use Rattle.lists.specs.Nodes.{node_of, statement_of, input_counted, temporary_counted, fresh_of, temporary_of}
use Rattle.lists.specs.Stack as stack
use Rattle.lists.specs.Valid.{sound_of, all_sound, valid_of}
use Rattle.exprs.specs.Formats.{is_image, arith_kind_of}
use Rattle.exprs.specs.Image.{extended_from_memory_of}
use Rattle.exprs.specs.Slots.{narrowed_of, from_slot_of}
use Rattle.exprs.specs.Operations.{extended_arith_of, unordered_of}
use Rattle.exprs.specs.Status.{x87_status_word_of}
use Rattle.memory.specs.Memory.{variable_of, read_operand_lowered_of, image_read_of, converted_of, x87_memory_read_of, source_of, write_dst_of, top_of, x87_store_memory_of}
use Rattle.moves.specs.Moves.{dropped_times, dropped_if, ordered_of, x87_arith_of, x87_compare_status_of, x87_compare_flags_of}
use Rattle.moves.specs.Pushes.{decline_x87_of, land_of, push_const_of, push_slot_of, push_memory_of}
use Rattle.lifter.specs.Apply.{apply_x87_of}
use Rattle.lifter.specs.Lift.{lowered_of, fitting_of, lift_of}
use Rattle.words.specs.Wide.{val, extract_of, concat_of, wide-val}
use Rattle.words.specs.declared.Wide.{Wide}
use Rattle.words.specs.Bytes.{little_endian, bytes_of}
use Rattle.image.specs.Layout.{image_of, has_number, pattern_in}
use Rattle.image.specs.Answers.{read_of, image_after}
use Rattle.evaluator.specs.Lists.{vals}
use Rattle.sorts.specs.Sorts.{sort_row}
use Rattle.sorts.specs.Lists.{row_sort, sorts}
use Rattle.evaluator.specs.Value.{computed}
use Rattle.agreement.specs.Spelled.{alone, at, at2, bits}
use Rattle.agreement.specs.Laid.{Reads}
use Rattle.agreement.specs.Values.{sort_at, value_at, value-at, earlier, unread, has}
use Rattle.agreement.specs.Runs.{Held, stepped, called, ran, begun}

-- What a lift adds, after others from the fresh state, over lists with room for 64 nodes and 16 statements
unfoldable pub after : List Instruction → Held
after is = ran (begun (replicate 256 0) (replicate 64 0)) is

unfoldable pub lifted : List Instruction → Instruction → Built
unfolding after ran called stepped lift_of fitting_of lowered_of valid_of all_sound sound_of room_of up stored wrote ◌▸◌ gives node_of statement_of input_counted temporary_counted fresh_of temporary_of classify_of form_of family_of names ranged_is spelled_is slot_of width_of texts.valid_of trim_of cut place_of why_of reason_of unknown_name wrong_count wrong_kind unknown_address wrong_width kind_off address_off width_off takes.table apply_x87_of decline_x87_of land_of push_const_of push_slot_of push_memory_of dropped_times dropped_if ordered_of x87_arith_of x87_compare_status_of x87_compare_flags_of variable_of read_operand_lowered_of image_read_of converted_of x87_memory_read_of source_of write_dst_of top_of x87_store_memory_of is_image arith_kind_of extended_from_memory_of narrowed_of from_slot_of extended_arith_of unordered_of x87_status_word_of stack.havoc_of stack.grown stack.bottom_of stack.lowered stack.ensure_of stack.slot_of stack.kept stack.read_of stack.write_of stack.overflows stack.push_of stack.drop_top_of stack.pop_of
lifted before i = let h = after before in lift_of h.st i h.nodes h.statements

-- The figures of a lift: its answer, the state's depth, inputs and temporaries, and how many nodes and statements it adds
pub record Figures : Type 0 where
  pub answer : ℕ
  pub depth : ℕ
  pub inputs : ℕ
  pub temporaries : ℕ
  pub nodes : ℕ
  pub statements : ℕ

unfoldable pub figures : Built → Figures
figures b =
    record {
      answer = b.val;
      depth = b.st.depth;
      inputs = b.st.inputs;
      temporaries = b.st.temporaries;
      nodes = length b.ns;
      statements = length b.ss;
    }

-- What is done, and what it gives
pub data Example : Type 0 where
  -- An instruction lifted after others: its figures, its nodes, its statements
  counts : List Instruction → Instruction → Figures → Example
  nodes : Instruction → List Row → Example
  statements : List Instruction → Instruction → List Row → Example
  -- A node that it adds, of whose value, whatever the given values are, this bit is 0
  clear : Instruction → ℕ → ℕ → Example
  -- A pattern, low and high word, written as an image
  writes : ℕ → ℕ → List ℕ → Example
  -- An image that gives the free pattern
  free : List ℕ → Example

-- A row of the table holds
abbrev pub Holds : Example → Type 0
Holds (counts before i f) = figures (lifted before i) ≡ f
Holds (nodes i rows) = (lifted [] i).ns ≡ rows
Holds (statements before i rows) = (lifted before i).ss ≡ rows
Holds (clear i node k) = (given : List ℕ) → extract_of (get_or (vals (wrote (replicate 256 0) (lifted [] i).ns) given (node + 1)) node 0) k k ≡ 0
Holds (writes low high bytes) = image_after (replicate 10 255) (record { lo = low; hi = high }) ≡ bytes
Holds (free bytes) = (p : Wide) → p.lo < 2 ^ 64 → val p < 2 ^ 79 → read_of bytes p ≡ Ok p

-- Every row holds
infixr 20 ◌&◌
pub data AllHold : List Example → Type 0 where
  end : AllHold []
  ◌&◌ : {e : Example} {es : List Example} → Holds e → AllHold es → AllHold (e ∷ es)

abbrev pub table : List Example
table =
    -- P1: the constant's words, low and high
    nodes (alone "fld1") (row 0 6 0x8000000000000000 0x1fff 79 ∷ []) ∷
    counts [] (alone "fld1") (record { answer = 0; depth = 1; inputs = 0; temporaries = 0; nodes = 1; statements = 0 }) ∷
    -- P2: its image
    writes 0x8000000000000000 0x1fff (0 ∷ 0 ∷ 0 ∷ 0 ∷ 0 ∷ 0 ∷ 0 ∷ 0x80 ∷ 0xff ∷ 0x3f ∷ []) ∷
    -- P3: minus zero
    writes 0 0x4000 (0 ∷ 0 ∷ 0 ∷ 0 ∷ 0 ∷ 0 ∷ 0 ∷ 0 ∷ 0 ∷ 0x80 ∷ []) ∷
    -- P4: exponent zero with integer bit 1
    free (0 ∷ 0 ∷ 0 ∷ 0 ∷ 0 ∷ 0 ∷ 0 ∷ 0x80 ∷ 0 ∷ 0 ∷ []) ∷
    -- P5: exponent 0x3fff with integer bit 0
    free (0 ∷ 0 ∷ 0 ∷ 0 ∷ 0 ∷ 0 ∷ 0 ∷ 0 ∷ 0xff ∷ 0x3f ∷ []) ∷
    -- P6: input 0, input 1, BvToFp of 1, BvToFp of 0, FAdd, FpToIeeeBv
    nodes (alone "faddp")
    (row 0 1 0 79 0 ∷ row 1 1 1 79 0 ∷ row 2 25 1 0 3904 ∷ row 3 25 0 0 3904 ∷ row 4 16 2 3 0 ∷ row 5 26 4 0 0 ∷ []) ∷
    counts [] (alone "faddp") (record { answer = 0; depth = 1; inputs = 2; temporaries = 0; nodes = 6; statements = 0 }) ∷
    -- P7: eight inputs, and the push overflows
    nodes (at "fld" "st(7)")
    (row 0 1 0 79 0 ∷ row 1 1 1 79 0 ∷ row 2 1 2 79 0 ∷ row 3 1 3 79 0 ∷ row 4 1 4 79 0 ∷ row 5 1 5 79 0 ∷ row 6 1 6 79 0 ∷ row 7 1 7 79 0 ∷ []) ∷
    counts [] (at "fld" "st(7)") (record { answer = 2; depth = 0; inputs = 8; temporaries = 0; nodes = 8; statements = 1 }) ∷
    -- P8, P9: a store of 64 bits is modelled only where it pops; the detail is 25, width not taken
    counts [] (bits "fist" 64) (record { answer = 1; depth = 0; inputs = 0; temporaries = 0; nodes = 0; statements = 1 }) ∷
    statements [] (bits "fist" 64) (row 0 6 1 16 25 ∷ []) ∷
    counts [] (bits "fistp" 64) (record { answer = 0; depth = 0; inputs = 1; temporaries = 0; nodes = 3; statements = 1 }) ∷
    -- P10: unordered is node 6; PF, ZF, CF, OF, SF
    counts [] (at2 "fcomi" "st(0)" "st(1)") (record { answer = 0; depth = 2; inputs = 2; temporaries = 0; nodes = 13; statements = 5 }) ∷
    nodes (at2 "fcomi" "st(0)" "st(1)")
    (row 0 1 0 79 0 ∷ row 1 25 0 0 3904 ∷ row 2 1 1 79 0 ∷ row 3 25 2 0 3904 ∷ row 4 22 1 0 0 ∷ row 5 22 3 0 0 ∷ row 6 11 4 5 0
    ∷ row 7 20 1 3 0 ∷ row 8 11 6 7 0 ∷ row 9 21 1 3 0 ∷ row 10 11 6 9 0 ∷ row 11 6 0 0 1 ∷ row 12 6 0 0 1 ∷ []) ∷
    statements [] (at2 "fcomi" "st(0)" "st(1)") (row 0 4 1 6 0 ∷ row 1 4 2 8 0 ∷ row 2 4 0 10 0 ∷ row 3 4 3 11 0 ∷ row 4 4 4 12 0 ∷ []) ∷
    -- P11: the status word is node 21, whose bit 9 is 0
    counts [] (at "fcom" "st(1)") (record { answer = 0; depth = 2; inputs = 3; temporaries = 0; nodes = 22; statements = 1 }) ∷
    statements [] (at "fcom" "st(1)") (row 0 3 21 0 0 ∷ []) ∷
    clear (at "fcom" "st(1)") 21 9 ∷
    -- P12: the load is node 0 and the free input node 1
    counts [] (bits "fld" 80) (record { answer = 0; depth = 1; inputs = 1; temporaries = 1; nodes = 18; statements = 1 }) ∷
    nodes (bits "fld" 80)
    (row 0 2 0 80 0 ∷ row 1 1 0 79 0 ∷ row 2 14 0 79 79 ∷ row 3 14 0 78 64 ∷ row 4 14 0 63 63 ∷ row 5 14 0 62 0
    ∷ row 6 6 0 0 15 ∷ row 7 9 3 6 0 ∷ row 8 6 1 0 1 ∷ row 9 9 4 8 0 ∷ row 10 12 9 0 0 ∷ row 11 10 7 10 0
    ∷ row 12 12 7 0 0 ∷ row 13 10 12 9 0 ∷ row 14 11 11 13 0 ∷ row 15 15 3 5 0 ∷ row 16 15 2 15 0 ∷ row 17 13 14 16 1 ∷ []) ∷
    statements [] (bits "fld" 80) (row 0 1 0 7 80 ∷ []) ∷
    -- at depth 8
    counts (replicate 8 (alone "fld1")) (bits "fld" 80) (record { answer = 2; depth = 0; inputs = 1; temporaries = 1; nodes = 18; statements = 2 }) ∷
    statements (replicate 8 (alone "fld1")) (bits "fld" 80) (row 0 1 8 7 80 ∷ row 1 6 2 16 0 ∷ []) ∷
    []

-- Bit 9 of a status word that is B, C3, TOP, C2, C1 = 0, and nine bits below
clear-9 : (busy c3 top c2 low : ℕ) → extract_of (concat_of busy (concat_of c3 (concat_of top (concat_of c2 (concat_of 0 low 9) 10) 11) 14) 15) 9 9 ≡ 0
clear-9 busy c3 top c2 low = omega arith

-- The nodes of P11 in their list
abbrev compared : List ℕ
compared = wrote (replicate 256 0) (lifted [] (at "fcom" "st(1)")).ns

-- Row n of its words
abbrev compared_at : ℕ → Row
compared_at n = row n (get_or compared (4 * n) 0) (get_or compared (4 * n + 1) 0) (get_or compared (4 * n + 2) 0) (get_or compared (4 * n + 3) 0)

reads : (n k a b c : ℕ) → compared_at n ≡ row n k a b c → Reads compared n k a b c
reads n k a b c e = record { kind = cc; first = cc; second = cc; third = cc }

module _ (given : List ℕ) where
  abbrev value : ℕ → ℕ
  value = value_at compared given

  -- A Concat of a above b, where b has k bits
  joined : (n a b k v : ℕ) → compared_at n ≡ row n 15 a b 0 → ltb a n ≡ true → ltb b n ≡ true → sort_at compared b ≡ k → value b ≡ v → value n ≡ concat_of (value a) v k
  unfolding computed
  joined n a b k v r h l e p =
      (has (reads n 15 a b 0 r) refl (earlier (ltb-true a n h) (record { sort = refl; value = refl })) (earlier (ltb-true b n l) (record { sort = e; value = p })) unread).value

  c1-zero : value 14 ≡ 0
  unfolding lifted computed
  c1-zero = (has (reads 14 6 0 0 1 refl) refl unread unread unread).value

  bit-9 : extract_of (get_or (vals compared given 22) 21 0) 9 9 ≡ 0
  unfolding lifted sort_at row_sort sorts sort_row
  bit-9 =
      let n17 = joined 17 14 16 9 (value 16) refl refl refl refl refl in
      let n18 = joined 18 6 17 10 _ refl refl refl refl n17 in
      let n19 = joined 19 13 18 11 _ refl refl refl refl n18 in
      let n20 = joined 20 10 19 14 _ refl refl refl refl n19 in
      let n21 = joined 21 12 20 15 _ refl refl refl refl n20 in
      rw (value-at compared given 21 22 (omega arith), n21, c1-zero) (clear-9 (value 12) (value 10) (value 13) (value 6) (value 16))

-- An image without a number gives the free pattern
free-read : (bytes : List ℕ) → ltb (length bytes) 10 ≡ false → has_number (little_endian (take 10 bytes)) ≡ false → Holds (free bytes)
unfolding read_of pattern_in
free-read bytes long none p lo h = rw (long, lt-ltb (val p) (2 ^ 79) h, none, ← wide-val p lo)

-- EVERY ROW OF THE TABLE HOLDS
pub bench : AllHold table
unfolding lifted figures image_after image_of bytes_of
bench =
    refl & refl & refl & refl & free-read _ refl refl & free-read _ refl refl & refl & refl & refl & refl & refl & refl & refl & refl & refl & refl
    & refl & refl & bit-9 & refl & refl & refl & refl & refl & end
