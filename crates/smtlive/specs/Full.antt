-- No choice is an empty text.
use Rattle.std.specs.Prelude.{Bool, true, false, cond, List, [], ◌∷◌, ◌++◌, ℕ, ◌+◌, ◌-◌, ◌<◌, ltb, eqb, length, get_or}
use Rattle.std.proofs.Common.{arith, length-append}
use Rattle.viable.specs.Runs.{Full}
use Rattle.writing.specs.Bytes.{bytes, decimal}
use Rattle.smttext.specs.Names.{declared_is, declared_name, defined_name, name_from}
use Rattle.smtgrammar.specs.State.{Tables}
use Rattle.smtgrammar.specs.Tokens.{line_text, opening_text, word_text, node_name, asserted_text, text_at}
use Rattle.smtgrammar.specs.Grammar.{Token, done}
use Rattle.smtgrammar.specs.declared.Place.{Place}
use Rattle.smtgrammar.specs.declared.Line.{Line}

-- not empty
record Some (x : List ℕ) : Type 0 where
  is : 0 < length x

pick : (b : Bool) {x y : List ℕ} → Some x → Some y → Some (cond b x y)
pick true p q = p
pick false p q = q

cons : (c : ℕ) (x : List ℕ) → Some (c ∷ x)
cons c x = record { is = omega arith }

-- a number, or a name, and what is behind it
behind : (x : List ℕ) (c : ℕ) (y : List ℕ) → Some (x ++ (c ∷ y))
behind x c y = record { is = omega (arith, length-append x (c ∷ y)) }

before : (x y : List ℕ) → Some x → Some (x ++ y)
before x y h = record { is = omega (arith, length-append x y) }

openings : (k s : ℕ) → Some (opening_text k s)
unfolding opening_text bytes
openings k s =
    pick (eqb k 6) (cons 35 _)
    (pick (eqb k 7) (cons 40 _)
    (pick (eqb k 8) (cons 40 _)
    (pick (eqb k 9) (cons 40 _)
    (pick (eqb k 10) (cons 40 _)
    (pick (eqb k 11) (cons 40 _)
    (pick (eqb k 12) (cons 40 _)
    (pick (eqb k 14) (cons 40 _)
    (pick (eqb k 15) (cons 40 _)
    (pick (eqb k 16) (cons 40 _)
    (pick (eqb k 17) (cons 40 _)
    (pick (eqb k 18) (cons 40 _)
    (pick (eqb k 19) (cons 40 _)
    (pick (eqb k 20) (cons 40 _)
    (pick (eqb k 21) (cons 40 _)
    (pick (eqb k 22) (cons 40 _)
    (pick (eqb k 23) (cons 40 _)
    (pick (eqb k 24) (cons 40 _)
    (pick (eqb k 25) (cons 40 _)
    (cons 40 _)))))))))))))))))))

module _ (t : Tables) (p : Place) (l : Line) where
  named : (i : ℕ) → Some (node_name t p l i)
  unfolding node_name name_from declared_name defined_name bytes
  named i = pick (declared_is (get_or t.kinds i 0)) (cons 120 _) (cons 110 _)

  written : (v : ℕ) → Some (text_at t p l v)
  unfolding text_at line_text word_text asserted_text bytes
  written v =
      pick (eqb l.stage 0) (pick (eqb v 0) (cons 40 _) (pick (eqb v 1) (cons 40 _) (cons 40 _)))
      (pick (eqb l.stage 1) (behind (decimal v) 95 [])
      (pick (eqb l.stage 2) (behind (decimal v) 95 [])
      (pick (eqb l.stage 3) (behind (decimal v) 32 [])
      (pick (eqb l.stage 4) (pick (eqb v 10) (cons 32 _) (cons (48 + v) _))
      (pick (eqb l.stage 5) (cons 40 _)
      (pick (eqb l.stage 6) (behind (decimal v) 32 [])
      (pick (eqb l.stage 7) (cons 40 _)
      (pick (eqb l.stage 8) (openings v l.sort)
      (pick (eqb l.stage 9)
      (pick (ltb v 65536) (before (node_name t p l v) _ (named v)) (pick (eqb (v - 65536) 0) (cons 35 _) (pick (eqb (v - 65536) 1) (cons 82 _) (cons 82 _))))
      (pick (eqb l.stage 10) (before (node_name t p l v) _ (named v))
      (pick (eqb l.stage 11) (before (node_name t p l v) _ (named v))
      (pick (eqb l.stage 12) (before (node_name t p l v) _ (named v))
      (pick (eqb l.stage 13) (behind (decimal v) 32 _)
      (pick (eqb l.stage 14) (cons (48 + v) _) (cons 40 _)))))))))))))))

-- no token is empty
pub full : Full Token done
full σ σ' x m = rw m.is.is (written σ.tables σ.place σ.line m.value).is
