-- The whole text of a root: its sorts and its marks, and the answer.
use Rattle.std.proofs.Common.{◌≡◌, refl, sym, ap, ◌∙◌, Bool, true, false, cond, List, ℕ, zero, suc, ◌+◌, ◌*◌, ◌≤◌, ◌<◌, min, leb, length, take, replicate, length-take, add-one, arith, le-leb, lt-ltb, Option, Some, None, Result, Ok, Err}
use Rattle.std.specs.Prelude.{ok_or}
use Rattle.std.proofs.lemmas.List.{length-replicate, get_or-take}
use Rattle.std.proofs.lemmas.List.Edits.{sets}
use borrow.Author.Tests.{le-ltb}
use lib.Seq.{take-take}
use Rattle.lists.specs.Rows.{room_of}
use Rattle.sorts.specs.Lists.{sorts}
use Rattle.sorts.specs.Laws.{length-sorts, take-sorts, passed-room}
use Rattle.sorts.specs.declared.CheckError.{CheckError}
use Rattle.evaluator.specs.Table.{Tables}
use Rattle.evaluator.specs.Laws.{table-checked, table-sorted}
use Rattle.needs.specs.Needed.{marks, marked_from}
use Rattle.needs.specs.Laws.{same-marks}
use Rattle.writing.specs.Fits.{Fits}
use Rattle.smttext.specs.Text.{on, part, text_by, text_of}
use Rattle.smttext.specs.declared.Part.{Part}
use Rattle.smttext.specs.declared.Part.TheVariants.{Declarations, Definitions, Assertions}
use Rattle.smtwriter.specs.declared.WriteError.{WriteError}
use Rattle.smtwriter.specs.declared.WriteError.TheVariants.{NoRoot, Short}
use Rattle.smtwriter.specs.Written.{bytes_after, of_check, written_of, Writes}
use Rattle.smtwriter.specs.Inside.{parts_of, Enough, Clear, Sorted}

-- a part looks at the marks of its nodes by their test alone
part_same : (p : Part) (w s m m' : List ℕ) (n : ℕ) → ((i : ℕ) → i < n → on m i ≡ on m' i) → part p w s m n ≡ part p w s m' n
unfolding part
part_same p w s m m' zero f = refl
part_same p w s m m' (suc n) f = rw (part_same p w s m m' n (λ i h. f i (omega arith)), f n (omega arith))

-- a text that fits or not, as an answer and as bytes
said : (b : Bool) (k : ℕ) (a : Option ℕ) → a ≡ cond b (Some k) None → ok_or a Short ≡ cond b (Ok k) (Err Short)
said true k a e = rw e refl
said false k a e = rw e refl

left : (b : Bool) (k : ℕ) (text old : List ℕ) → cond b (sets old 0 text) old ≡ bytes_after (cond b (Ok k) (Err Short)) text old
left true k text old = refl
left false k text old = refl

-- a root of a list that passes, over the table t of its sorts
module _ (w : List ℕ) (n : ℕ) (t : List ℕ) (x : Sorted w n t) where
  pub no-root : (r : ℕ) (old : List ℕ) → n ≤ r → Writes w n r (Err NoRoot) old old
  unfolding written_of
  no-root r old h = record { answer = rw (x.passed, le-ltb r n h); bytes = refl }

  module _ (r : ℕ) (within : r < n) where
    pub sorts-there : r + 1 ≤ length t
    sorts-there = omega (arith, ap length x.table, length-take n t, length-sorts w n)

    root-sorts : take (suc r) t ≡ sorts w (suc r)
    root-sorts = sym (take-take (suc r) n t within) ∙ ap (take (suc r)) x.table ∙ take-sorts w (suc r) n within

    -- .. with the clear column z
    module _ (z : List ℕ) (c : Clear n z) where
      pub marks-there : r + 1 ≤ length z
      unfolding room_of
      marks-there = omega (arith, c.enough, (passed-room w n x.passed).room)

      root-marks : (i : ℕ) → on (marked_from w r z) i ≡ on (marks w r) i
      unfolding marked_from room_of
      root-marks i =
          let room = (passed-room w n x.passed).room in
          rw (le-leb (4 * r + 4) (length w) (omega arith), lt-ltb r (length z) (omega (arith, marks-there))) (same-marks w r z c.clear (omega (arith, marks-there)) i)

      module _ (m : List ℕ) (e : m ≡ marked_from w r z) (long : r + 1 ≤ length m) where
        same-part : (p : Part) → part p w (take (suc r) t) (take (suc r) m) (suc r) ≡ part p w (sorts w (suc r)) (marks w r) (suc r)
        same-part p =
            rw root-sorts (part_same p w (sorts w (suc r)) (take (suc r) m) (marks w r) (suc r) (λ i h. rw (get_or-take (suc r) m i 0 h, e) (root-marks i)))

        same_text : parts_of w (take (r + 1) t) (take (r + 1) m) ≡ text_of w r
        unfolding text_of text_by
        same_text =
            let k : length (take (suc r) m) ≡ suc r = omega (arith, length-take (suc r) m) in
            rw (add-one r, k, same-part Declarations, same-part Definitions, same-part Assertions) refl

        pub written : {a : Option ℕ} {b : Result ℕ WriteError} {old new : List ℕ} → b ≡ ok_or a Short → Fits (parts_of w (take (r + 1) t) (take (r + 1) m)) a old new → Writes w n r b old new
        unfolding written_of
        written {a} {b} {old} f y =
            let z = rw same_text at y in
            let q = leb (length (text_of w r)) (length old) in
            let s = f ∙ said q (length (text_of w r)) a z.answer in
            record { answer = rw (x.passed, lt-ltb r n within) s; bytes = z.bytes ∙ left q (length (text_of w r)) (text_of w r) old ∙ ap (λ (a : Result ℕ WriteError). bytes_after a (text_of w r) old) (sym s) }

-- what the table of a list says, where it has enough entries
module _ {w t₀ t : List ℕ} {n : ℕ} {v : Result Unit CheckError} (enough : Enough n t₀) (x : Tables w n v t₀ t) where
  pub sorted : v ≡ Ok tt → Sorted w n t
  sorted e = record { passed = sym (table-checked enough x) ∙ e; table = table-sorted enough x e }

  pub refused : (r : ℕ) (old : List ℕ) (e : CheckError) → v ≡ Err e → Writes w n r (Err (of_check e)) old old
  unfolding written_of
  refused r old e f = record { answer = rw (← table-checked enough x, f); bytes = refl }

-- a clear table of k entries, where these are enough
module _ (k n : ℕ) (h : min n 65535 ≤ k) where
  pub long : Enough n (replicate k 0)
  long = omega (arith, length-replicate {A = ℕ} k 0)
