-- A node's name, a template that is filled, and the lines of a part.
use Rattle.std.proofs.Common.{◌≡◌, refl, sym, ◌∙◌, ap, Bool, true, false, List, [], ◌∷◌, ◌++◌, append_assoc, ℕ, suc, ◌+◌, ◌*◌, ◌<◌, ◌≤◌, ◌-◌, length, take, drop, map, get_or, take_all, add-zero, add-one, ne_eqb, eqb-true, append-nil, length-drop, arith}
use Rattle.std.specs.Bool.{◌==◌}
use Rattle.std.proofs.lemmas.List.{drop_more, take_more, get_or-drop, nil_from_length}
use Rattle.std.proofs.Math.ListN.{drop_of_length-le}
use Rattle.writing.specs.Bytes.{bytes}
use Rattle.writing.specs.Sink.{SinkLaws}
use Rattle.smttext.specs.Fill.{filled}
use Rattle.smttext.specs.Names.{kind_at, name_from, name_of}
use Rattle.smttext.specs.Text.{in_part, line_in, part}
use Rattle.smttext.specs.declared.Part.{Part}

-- the name of a node by its first two words
pub name-is : (w : List ℕ) (i k a : ℕ) → k ≡ get_or w (4 * i + 0) 0 → a ≡ get_or w (4 * i + 1) 0 → name_from i k a ≡ name_of w i
unfolding name_of
name-is w i k a e f = rw (e, f, add-zero) refl

-- the line of a definition, whose term is written by itself
pub defines : (x y t : List ℕ) → filled (bytes "(define-fun % () % ") (x ∷ y ∷ []) ++ (t ++ bytes ")\n") ≡ filled (bytes "(define-fun % () % %)\n") (x ∷ y ∷ t ∷ [])
unfolding filled bytes
defines x y t = rw (append_assoc x, append_assoc y) refl

-- a byte of a template that stands for itself
plain : (b : ℕ) (t : List ℕ) (xs : List (List ℕ)) → (b ≡ 37 → xs ≡ []) → filled (b ∷ t) xs ≡ b ∷ filled t xs
unfolding filled
plain b t [] n = refl
plain b t (x ∷ xs) n = ap (λ (s : Bool). elim s [ true ↦ x ++ filled t xs | false ↦ b ∷ filled t (x ∷ xs) ]) (ne_eqb b 37 (λ e. none (n e)))
  where
    none : x ∷ xs ≡ [] → ⊥
    none e = let z : ◌≡◌ {A = ℕ} (suc (length xs)) 0 = ap length e in absurd (omega arith)

-- a text in three parts
joined₂ : (x y u v : List ℕ) → x ++ (y ++ (u ++ v)) ≡ ((x ++ y) ++ u) ++ v
joined₂ x y u v = sym (append_assoc (x ++ y) u v ∙ append_assoc x y (u ++ v))

never : true ≡ false → ⊥
never e = let z : ◌≡◌ {A = ℕ} 0 1 = cc in absurd (omega arith)

filled-by : {H : Type 0} (f : H → List ℕ) (d : H) (hs : List H) (t : List ℕ) → (length hs == 0) ≡ false
    → filled (37 ∷ t) (map f hs) ≡ f (get_or hs 0 d) ++ filled t (map f (take (length hs - 1) (drop 1 hs)))
unfolding filled
filled-by f d [] t n = absurd (never n)
filled-by f d (x ∷ hs) t n = let k : take (suc (length hs) - 1) hs ≡ hs = take_all (suc (length hs) - 1) hs (omega arith) in rw k refl

-- a template t, filled by xs, of which the text x was written and the bytes from place k on are to be
module _ (t : List ℕ) (k i : ℕ) (h : k ≤ i) where
  module _ (within : i < length t) where
    longer : take (i + 1 - k) (drop k t) ≡ take (i - k) (drop k t) ++ (get_or t i 0 ∷ [])
    longer =
        let n : i + 1 - k ≡ i - k + 1 = omega arith in
        let m : k + (i - k) ≡ i = omega arith in
        let g : get_or (drop k t) (i - k) 0 ≡ get_or t i 0 = get_or-drop k t (i - k) 0 ∙ rw m refl in
        rw n (take_more (drop k t) (i - k) 0 (omega (arith, length-drop k t)) ∙ rw g refl)

    -- the byte at place i stands for itself ..
    pub itself : {whole : List ℕ} (x : List ℕ) (xs : List (List ℕ)) → (get_or t i 0 ≡ 37 → xs ≡ []) → whole ≡ x ++ (take (i - k) (drop k t) ++ filled (drop i t) xs)
        → whole ≡ x ++ (take (i + 1 - k) (drop k t) ++ filled (drop (i + 1) t) xs)
    itself x xs n e =
        let b : filled (drop i t) xs ≡ (get_or t i 0 ∷ []) ++ filled (drop (i + 1) t) xs =
        rw (drop_more t i 0 within) (plain (get_or t i 0) (drop (i + 1) t) xs n) in
        e ∙ rw (b, longer, append_assoc (take (i - k) (drop k t)) (get_or t i 0 ∷ []) (filled (drop (i + 1) t) xs)) refl

    -- .. or the next hole fills it
    pub hole-filled : {whole : List ℕ} (x : List ℕ) {H : Type 0} (f : H → List ℕ) (d : H) (hs : List H) → get_or t i 0 ≡ 37 → (length hs == 0) ≡ false
        → whole ≡ x ++ (take (i - k) (drop k t) ++ filled (drop i t) (map f hs))
        → whole ≡ ((x ++ take (i - k) (drop k t)) ++ f (get_or hs 0 d)) ++ (take (i + 1 - (i + 1)) (drop (i + 1) t) ++ filled (drop (i + 1) t) (map f (take (length hs - 1) (drop 1 hs))))
    hole-filled x f d hs p q e =
        let n : i + 1 - (i + 1) ≡ 0 = omega arith in
        let b : filled (drop i t) (map f hs) ≡ f (get_or hs 0 d) ++ filled (drop (i + 1) t) (map f (take (length hs - 1) (drop 1 hs))) =
        rw (drop_more t i 0 within, p) (filled-by f d hs (drop (i + 1) t) q) in
        e ∙ rw (b, n) (joined₂ x (take (i - k) (drop k t)) (f (get_or hs 0 d)) (filled (drop (i + 1) t) (map f (take (length hs - 1) (drop 1 hs)))))

  -- what is left at the end
  pub at-end : length t ≤ i → {whole : List ℕ} (x : List ℕ) (xs : List (List ℕ)) → whole ≡ x ++ (take (i - k) (drop k t) ++ filled (drop i t) xs) → x ++ take (length t - k) (drop k t) ≡ whole
  unfolding filled
  at-end l x xs e =
      let n : drop i t ≡ [] = drop_of_length-le t {i = i} l in
      let r : take (i - k) (drop k t) ≡ drop k t = take_all (i - k) (drop k t) (omega (arith, length-drop k t)) in
      let s : take (length t - k) (drop k t) ≡ drop k t = take_all (length t - k) (drop k t) (omega (arith, length-drop k t)) in
      sym (e ∙ rw (n, r, s, append-nil (drop k t)) refl)

pub no_hole : {H : Type 0} (f : H → List ℕ) (hs : List H) → (length hs == 0) ≡ true → map f hs ≡ []
no_hole f hs e = ap (map f) (nil_from_length hs (eqb-true (length hs) 0 e))

-- one line more, of a node that is marked and has one in the part, or none
module _ {S : Type 0} {took : List ℕ → S → S → Type 0} (laws : SinkLaws took) (p : Part) (w s m : List ℕ) (i : ℕ) {o a : S} (before : took (part p w s m i) o a) where
  pub not-marked : (get_or m i 0 ≡ 1 → ⊥) → took (part p w s m (i + 1)) o a
  unfolding part
  not-marked n = rw (add-one i, ne_eqb (get_or m i 0) 1 n) (laws.then before (laws.nothing a))

  module _ (k : ℕ) (b : Bool) (e : get_or m i 0 ≡ 1) (f : k ≡ get_or w (4 * i + 0) 0) (h : b ≡ in_part p k) where
    kind : in_part p (kind_at w i) ≡ b
    kind = let g = rw add-zero at f in rw (← g) (sym h)

    pub no-line : b ≡ false → took (part p w s m (i + 1)) o a
    unfolding part
    no-line q = rw (add-one i, e, kind ∙ q) (laws.then before (laws.nothing a))

    pub line-more : {c : S} → b ≡ true → took (line_in p w s i) a c → took (part p w s m (i + 1)) o c
    unfolding part
    line-more q x = rw (add-one i, e, kind ∙ q) (laws.then before x)
