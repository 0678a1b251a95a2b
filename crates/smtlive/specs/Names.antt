-- Names of nodes: no two numbers have the same, and none holds a mark.
use Rattle.std.specs.Prelude.{◌≡◌, refl, Bool, true, false, cond, ◌&&◌, ◌||◌, List, [], ◌∷◌, ◌++◌, ℕ, suc, ◌<◌, ◌^◌, leb, eqb, length}
use Rattle.std.proofs.Common.{ap, arith, eq-eqb}
use Rattle.viable.specs.Family.{common, lacks, ended}
use Rattle.needs.specs.Needed.{arity}
use Rattle.writing.specs.Bytes.{bytes, decimal}
use Rattle.smttext.specs.Names.{declared_is, declared_name, defined_name, name_from}
use Rattle.smtgrammar.specs.Tokens.{mark_text}
use Rattle.smtlive.specs.Decimal.{lacks-append, lacks-one, lacks-decimal, decimal_injective}

-- a text shares all of itself with itself
all-shared : (x : List ℕ) → common x x ≡ length x
unfolding common
all-shared [] = refl
all-shared (a ∷ x) = rw (eq-eqb a a refl) (ap suc (all-shared x))

common-self : (x y : List ℕ) → x ≡ y → common x y ≡ length x
common-self x y e = rw (← e) (all-shared x)

lacks-cons : (c d : ℕ) (l : List ℕ) → (d ≡ c → ⊥) → lacks c l ≡ true → lacks c (d ∷ l) ≡ true
lacks-cons c d l h e = lacks-append c (d ∷ []) l (lacks-one c d h) e

-- the bytes of names are all over those of marks
lacks-number : (c v : ℕ) → c < 48 → lacks c (decimal v) ≡ true
lacks-number c v h = lacks-decimal c v (λ d k z. omega arith)

pub lacks-name : (c i k a : ℕ) → c < 48 → lacks c (name_from i k a) ≡ true
unfolding name_from declared_name defined_name bytes
lacks-name c i k a h = go (declared_is k)
  where
    go : (t : Bool) → lacks c (cond t (120 ∷ (decimal i ++ (95 ∷ (decimal k ++ (95 ∷ decimal a))))) (110 ∷ decimal i)) ≡ true
    go true =
        lacks-cons c 120 _ (λ z. omega arith)
        (lacks-append c (decimal i) _ (lacks-number c i h)
        (lacks-cons c 95 _ (λ z. omega arith)
        (lacks-append c (decimal k) _ (lacks-number c k h)
        (lacks-cons c 95 _ (λ z. omega arith) (lacks-number c a h)))))
    go false = lacks-cons c 110 _ (λ z. omega arith) (lacks-number c i h)

pub name-injective : (i k a j m b : ℕ) → i < 2 ^ 64 → j < 2 ^ 64 → name_from i k a ≡ name_from j m b → i ≡ j
unfolding name_from declared_name defined_name bytes
name-injective i k a j m b h l e = go (declared_is k) (declared_is m) e
  where
    tail : List ℕ → List ℕ
    tail [] = []
    tail (c ∷ z) = z

    head : List ℕ → ℕ
    head [] = 0
    head (c ∷ z) = c

    go : (s t : Bool)
        → cond s (120 ∷ (decimal i ++ (95 ∷ (decimal k ++ (95 ∷ decimal a))))) (110 ∷ decimal i)
        ≡ cond t (120 ∷ (decimal j ++ (95 ∷ (decimal m ++ (95 ∷ decimal b))))) (110 ∷ decimal j)
        → i ≡ j
    go true true e =
        decimal_injective i j h l
        (ended 95 (decimal i) (decimal j) _ _ (lacks-decimal 95 i (λ d k z. omega arith)) (lacks-decimal 95 j (λ d k z. omega arith))
        (common-self _ _ (ap tail e)))
    go true false e = absurd (omega (arith, ap head e))
    go false true e = absurd (omega (arith, ap head e))
    go false false e = decimal_injective i j h l (ap tail e)

-- what begins with a byte below those of names
pub record Marked (l : List ℕ) : Type 0 where
  pub mark : ℕ
  pub rest : List ℕ
  pub low : mark < 48
  pub is : l ≡ mark ∷ rest

pick : (b : Bool) {x y : List ℕ} → Marked x → Marked y → Marked (cond b x y)
pick true p q = p
pick false p q = q

close : {l : List ℕ} → Marked (41 ∷ l)
close {l} = record { mark = 41; rest = l; low = omega arith; is = refl }

blank : {l : List ℕ} → Marked (32 ∷ l)
blank {l} = record { mark = 32; rest = l; low = omega arith; is = refl }

pub marked : (k j : ℕ) → Marked (mark_text k j)
unfolding mark_text bytes
marked k j =
    pick (eqb j 0)
    (pick (eqb k 10 || eqb k 11) close
    (pick (eqb k 12) close
    (pick (eqb k 13) close
    (pick (eqb k 22) close (pick (leb 2 (arity k)) blank close)))))
    (pick (eqb j 1 && ((eqb k 9 || eqb k 20) || eqb k 21)) close
    (pick (eqb j 1 && (eqb k 10 || eqb k 11)) close
    (pick (eqb j 1 && eqb k 13) blank close)))
