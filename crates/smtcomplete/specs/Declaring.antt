-- A line that declares: its tokens, and their text.
use Rattle.std.specs.Prelude.{◌≡◌, Bool, cond, List, [], ◌∷◌, ◌++◌, ℕ, ◌^◌, ◌≤◌, ◌<◌, get_or}
use Rattle.std.proofs.Math.Path.{refl}
use Rattle.std.proofs.Math.Bool.{true, false}
use Rattle.std.proofs.Common.{append_assoc, arith}
use borrow.Author.Tests.{lt-ltb, le-leb}
use Rattle.std.proofs.Math.Dec.{leb}
use Rattle.sorts.specs.Lists.{field}
use Rattle.writing.specs.Bytes.{bytes, decimal}
use Rattle.smttext.specs.Fill.{filled}
use Rattle.smttext.specs.Names.{kind_at, declared_is, declared_name, name_from, name_of, sort_text}
use Rattle.smttext.specs.Text.{declaration}
use Rattle.smtgrammar.specs.declared.Place.{Place}
use Rattle.smtgrammar.specs.declared.Line.{Line}
use Rattle.smtgrammar.specs.State.{limit, Tables, no_line}
use Rattle.smtgrammar.specs.Allowed.{line_ok, kind_ok, number_ok, width_ok, ok_at}
use Rattle.smtgrammar.specs.Tokens.{line_text, text_at}
use Rattle.smtgrammar.specs.Next.{begun, declared, next_at}
use Rattle.smtgrammar.specs.Grammar.{size_at}
use Rattle.smtcomplete.specs.Lines.{between, Reach, both, token}
use Rattle.smtcomplete.specs.Words.{number-run}

-- the tokens of a declaration: node i, kind k, number a, width s
unfoldable pub declared_line : ℕ → ℕ → ℕ → ℕ → List ℕ
declared_line i k a s =
    bytes "(declare-fun x"
    ++ ((decimal i ++ bytes "_") ++ ((decimal k ++ bytes "_") ++ ((decimal a ++ bytes " ") ++ (bytes "() (_ BitVec " ++ (decimal s ++ bytes "))\n")))))

shape : (i k a s : List ℕ)
    → filled (bytes "(declare-fun % () %)\n") ((bytes "x" ++ (i ++ (bytes "_" ++ (k ++ (bytes "_" ++ a))))) ∷ (bytes "(_ BitVec " ++ (s ++ bytes ")")) ∷ [])
    ≡ bytes "(declare-fun x" ++ ((i ++ bytes "_") ++ ((k ++ bytes "_") ++ ((a ++ bytes " ") ++ (bytes "() (_ BitVec " ++ (s ++ bytes "))\n")))))
unfolding filled bytes
shape i k a s = simp append_assoc

pub declaration-text : (w s : List ℕ) (i : ℕ) → declared_is (kind_at w i) ≡ true → get_or s i 0 ≤ 80
    → declaration w s i ≡ declared_line i (kind_at w i) (field w i 1) (get_or s i 0)
unfolding declaration filled bytes name_of name_from declared_name sort_text declared_line
declaration-text w s i d h = rw (d, le-leb (get_or s i 0) 80 h) (shape (decimal i) (decimal (kind_at w i)) (decimal (field w i 1)) (decimal (get_or s i 0)))

-- the place in a line of part v
abbrev pub in_part : ℕ → Place → Place
in_part v p = record { part = v; top = p.top; gap = p.gap; next = p.next; owed = p.owed; due = p.due; count = p.count }

-- a line of a declaration at its stage, as far as it is known
abbrev pub declaring : ℕ → ℕ → ℕ → ℕ → Line
declaring stage i k a = record { stage = stage; node = i; kind = k; sort = 0; a = a; b = 0; r = 0; left = 0; after = 0 }

-- node i can be declared so
pub record Declares (t : Tables) (p : Place) (i k a s : ℕ) : Type 0 where
  pub part : p.part ≡ 0
  pub top : p.top ≤ i
  pub node : i < limit
  pub kind : kind_ok t (in_part 0 p) (declaring 2 i 0 0) k ≡ true
  pub few : k < 27
  pub number : leb k 3 ≡ false → (number_ok t (in_part 0 p) (declaring 3 i k 0) a ≡ true) × (a < limit)
  pub word : a < 2 ^ 64
  pub width : width_ok t (in_part 0 p) (declaring 5 i k a) s ≡ true
  pub small : s ≤ 80

module _ (t : Tables) (p : Place) (i k a s : ℕ) (o : Declares t p i k a s) where
  begins : Reach (between t p) (bytes "(declare-fun x") (record { tables = t; place = in_part 0 p; line = declaring 1 0 0 0 })
  unfolding size_at ok_at line_ok text_at line_text next_at begun
  begins = token t p no_line 0 (omega arith) (rw (o.part, lt-ltb p.top limit (let h = o.top in let l = o.node in omega arith)))

  names : Reach (record { tables = t; place = in_part 0 p; line = declaring 1 0 0 0 }) (decimal i ++ bytes "_") (record { tables = t; place = in_part 0 p; line = declaring 2 i 0 0 })
  unfolding size_at ok_at text_at next_at
  names = token t (in_part 0 p) (declaring 1 0 0 0) i o.node (rw (le-leb p.top i o.top, lt-ltb i limit o.node))

  kinds : Reach (record { tables = t; place = in_part 0 p; line = declaring 2 i 0 0 }) (decimal k ++ bytes "_") (record { tables = t; place = in_part 0 p; line = declaring (cond (leb k 3) 4 3) i k 0 })
  unfolding size_at ok_at text_at next_at
  kinds = token t (in_part 0 p) (declaring 2 i 0 0) k o.few o.kind

  numbers : Reach (record { tables = t; place = in_part 0 p; line = declaring (cond (leb k 3) 4 3) i k 0 }) (decimal a ++ bytes " ") (record { tables = t; place = in_part 0 p; line = declaring 5 i k a })
  unfolding size_at ok_at text_at next_at
  numbers = go (leb k 3) refl
    where
      go : (b : Bool) → leb k 3 ≡ b → Reach (record { tables = t; place = in_part 0 p; line = declaring (cond b 4 3) i k 0 }) (decimal a ++ bytes " ") (record { tables = t; place = in_part 0 p; line = declaring 5 i k a })
      go true e = number-run t (in_part 0 p) i k a o.word
      go false e = token t (in_part 0 p) (declaring 3 i k 0) a (o.number e).1 (o.number e).0

  widths : Reach (record { tables = t; place = in_part 0 p; line = declaring 5 i k a }) (bytes "() (_ BitVec " ++ (decimal s ++ bytes "))\n")) (declared t (in_part 0 p) (declaring 5 i k a) s)
  unfolding size_at ok_at text_at next_at
  widths = token t (in_part 0 p) (declaring 5 i k a) s (let h = o.small in omega arith) o.width

  pub declares : Reach (between t p) (declared_line i k a s) (declared t (in_part 0 p) (declaring 5 i k a) s)
  unfolding declared_line
  declares = both begins (both names (both kinds (both numbers widths)))
