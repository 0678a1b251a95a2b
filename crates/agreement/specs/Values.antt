-- The sort and the value of a row, from those of the rows that it names
use Rattle.std.specs.Prelude.{◌≡◌, Bool, true, false, not, ◌&&◌, ◌||◌, List, [], ◌∷◌, ◌++◌, ℕ, ◌+◌, ◌≤◌, ◌<◌, eqb, length, get_or, take}
use Rattle.std.proofs.Math.Path.{refl}
use Rattle.std.proofs.Common.{sym, ap, ◌∙◌, arith, get_or-take, take_all}
use Rattle.std.proofs.Math.Decide.{le_ind}
use Rattle.std.proofs.lemmas.List.{get_or_at, take-append-le}
use Rattle.sorts.specs.Sorts.{sort_row}
use Rattle.sorts.specs.Lists.{row_sort, sorts}
use Rattle.sorts.specs.Laws.{sorts-suc, length-sorts, take-sorts}
use Rattle.evaluator.specs.Value.{flag_of, is_given, held, computed}
use Rattle.evaluator.specs.Lists.{pair_at, row_value, vals}
use Rattle.evaluator.specs.Laws.{vals-suc, length-vals}
use Rattle.agreement.specs.Laid.{Reads}

-- The sort and the value of node n, which the rows after it leave as they are
unfoldable pub sort_at : List ℕ → ℕ → ℕ
sort_at w n = row_sort w n (sorts w n)

unfoldable pub value_at : List ℕ → List ℕ → ℕ → ℕ
value_at w g n = row_value w g n (sorts w n) (vals w g n)

-- The last entry of a prefix
last : (l m : List ℕ) (x i : ℕ) → length l ≡ i → take (i + 1) m ≡ l ++ (x ∷ []) → get_or m i 0 ≡ x
last l m x i e f = sym (get_or-take (i + 1) m i 0 (omega arith)) ∙ ap (λ (k : List ℕ). get_or k i 0) f ∙ get_or_at l x [] 0 i e

take-vals : (w g : List ℕ) (i n : ℕ) → i ≤ n → take i (vals w g n) ≡ vals w g i
unfolding vals
take-vals w g i n h =
    le_ind (λ (m : ℕ). take i (vals w g m) ≡ vals w g i)
    (take_all i (vals w g i) (omega (arith, length-vals w g i)))
    (λ m k e. take-append-le i (vals w g m) (row_value w g m (sorts w m) (vals w g m) ∷ []) (omega (arith, length-vals w g m)) ∙ e)
    n h

pub sort-at : (w : List ℕ) (i n : ℕ) → i < n → get_or (sorts w n) i 0 ≡ sort_at w i
unfolding sort_at
sort-at w i n h = last (sorts w i) (sorts w n) (row_sort w i (sorts w i)) i (length-sorts w i) (take-sorts w (i + 1) n (omega arith) ∙ sorts-suc w i)

pub value-at : (w g : List ℕ) (i n : ℕ) → i < n → get_or (vals w g n) i 0 ≡ value_at w g i
unfolding value_at
value-at w g i n h =
    last (vals w g i) (vals w g n) (row_value w g i (sorts w i) (vals w g i)) i (length-vals w g i) (take-vals w g (i + 1) n (omega arith) ∙ vals-suc w g i)

-- A test that is held as a value
pub is-flag : (x : Bool) → eqb (flag_of x) 1 ≡ x
is-flag true = refl
is-flag false = refl

-- Node n has this sort and this value
pub record Has (w g : List ℕ) (n s v : ℕ) : Type 0 where
  pub sort : sort_at w n ≡ s
  pub value : value_at w g n ≡ v

-- .. and row n takes them as its operand's
pub record Takes (w g : List ℕ) (n a s v : ℕ) : Type 0 where
  pub sort : get_or (sorts w n) a 0 ≡ s
  pub value : get_or (vals w g n) a 0 ≡ v

module _ {w g : List ℕ} {n : ℕ} where
  pub earlier : {a s v : ℕ} → a < n → Has w g a s v → Takes w g n a s v
  earlier {a} h p = record { sort = sort-at w a n h ∙ p.sort; value = value-at w g a n h ∙ p.value }

  -- .. or it takes whatever is there
  pub unread : {a : ℕ} → Takes w g n a (get_or (sorts w n) a 0) (get_or (vals w g n) a 0)
  unread = record { sort = refl; value = refl }

  -- A row whose value is computed, and one whose value is given
  pub has : {k a b c sa sb sc va vb vc : ℕ} → Reads w n k a b c → is_given k ≡ false → Takes w g n a sa va → Takes w g n b sb vb → Takes w g n c sc vc
      → Has w g n (sort_row k a b c sa sb sc) (computed k a b c sa sb va vb vc)
  unfolding sort_at value_at row_sort row_value
  has r e p q t =
      record {
        sort = rw (r.kind, r.first, r.second, r.third, p.sort, q.sort, t.sort);
        value = rw (r.kind, r.first, r.second, r.third, e, p.sort, q.sort, p.value, q.value, t.value);
      }

  pub given : {k a b c : ℕ} → Reads w n k a b c → is_given k ≡ true
      → Has w g n (sort_row k a b c (get_or (sorts w n) a 0) (get_or (sorts w n) b 0) (get_or (sorts w n) c 0))
      (held (sort_row k a b c (get_or (sorts w n) a 0) (get_or (sorts w n) b 0) (get_or (sorts w n) c 0)) (pair_at g n))
  unfolding sort_at value_at row_sort row_value
  given r e =
      record {
        sort = rw (r.kind, r.first, r.second, r.third);
        value = rw (r.kind, r.first, r.second, r.third, e);
      }

  -- BoolNot, BoolAnd and BoolOr of tests
  pub not-has : {a : ℕ} (x : Bool) → Reads w n 12 a 0 0 → a < n → Has w g a 1 (flag_of x) → Has w g n 1 (flag_of (not x))
  unfolding sort_row computed
  not-has x r h p = rw (is-flag x) at (has r refl (earlier h p) unread unread)

  pub and-has : {a b : ℕ} (x y : Bool) → Reads w n 10 a b 0 → a < n → b < n → Has w g a 1 (flag_of x) → Has w g b 1 (flag_of y) → Has w g n 1 (flag_of (x && y))
  unfolding sort_row computed
  and-has x y r h k p q = rw (is-flag x, is-flag y) at (has r refl (earlier h p) (earlier k q) unread)

  pub or-has : {a b : ℕ} (x y : Bool) → Reads w n 11 a b 0 → a < n → b < n → Has w g a 1 (flag_of x) → Has w g b 1 (flag_of y) → Has w g n 1 (flag_of (x || y))
  unfolding sort_row computed
  or-has x y r h k p q = rw (is-flag x, is-flag y) at (has r refl (earlier h p) (earlier k q) unread)
