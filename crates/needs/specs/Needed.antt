-- Which nodes of a list a root needs, and the pass that marks them.
use Rattle.std.specs.Prelude.{◌≡◌, Bool, cond, List, ℕ, zero, suc, ◌+◌, ◌*◌, ◌<◌, leb, ltb, eqb, length, get_or, set, replicate}

-- how many operands a node of kind k has: they are the first of its three words a, b, c
unfoldable pub arity : ℕ → ℕ
arity k =
    -- input, temporary, named slot, fsw, flag, constant
    cond (leb k 6) 0
    -- Ite
    (cond (eqb k 13) 3
    -- And, Xor, Eq, BoolAnd, BoolOr
    (cond (leb k 11) 2
    -- BoolNot, Extract
    (cond (eqb k 12) 1
    (cond (eqb k 14) 1
    -- Concat, the float sums and compares
    (cond (leb k 21) 2
    -- FIsNaN, FSqrt, FRoundToIntegral and the conversions
    (cond (leb k 29) 1
    0))))))

-- node a is an operand of node n of the list w, and earlier than n
pub record Operand (w : List ℕ) (n a : ℕ) : Type 0 where
  pub place : ℕ
  pub has : place < arity (get_or w (4 * n) 0)
  pub is : a ≡ get_or w (4 * n + 1 + place) 0
  pub earlier : a < n

-- the root r needs itself, and each operand of what it needs
pub data Needed (w : List ℕ) (r : ℕ) : ℕ → Type 0 where
  root : Needed w r r
  of : {n a : ℕ} → Needed w r n → Operand w n a → Needed w r a

-- the column m with a marked, where a is on, that is an operand, and is earlier than node i
unfoldable pub marked : ℕ → Bool → ℕ → List ℕ → List ℕ
marked i on a m = cond on (cond (ltb a i) (set m a 1) m) m

-- the column m with the operands of node i marked, where node i is
unfoldable pub spread : List ℕ → ℕ → List ℕ → List ℕ
spread w i m =
    cond (eqb (get_or m i 0) 1)
    (marked i (leb 3 (arity (get_or w (4 * i) 0))) (get_or w (4 * i + 3) 0)
    (marked i (leb 2 (arity (get_or w (4 * i) 0))) (get_or w (4 * i + 2) 0)
    (marked i (leb 1 (arity (get_or w (4 * i) 0))) (get_or w (4 * i + 1) 0) m)))
    m

-- the same for each node below k, from the last one down
unfoldable pub pass : List ℕ → ℕ → List ℕ → List ℕ
pass w zero m = m
pass w (suc k) m = pass w k (spread w k m)

-- the column m after what root r needs was marked in it: as it was where the list has no row r or the column no entry r
unfoldable pub marked_from : List ℕ → ℕ → List ℕ → List ℕ
marked_from w r m =
    cond (leb (4 * r + 4) (length w)) (cond (ltb r (length m)) (pass w (suc r) (set m r 1)) m) m

-- the marks of what root r needs, in a clear column of its own: 1 at what is needed, 0 at what is not
unfoldable pub marks : List ℕ → ℕ → List ℕ
marks w r = pass w (suc r) (set (replicate (suc r) 0) r 1)
