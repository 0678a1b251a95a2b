-- A choice that the grammar allows fits: its row has room in the columns, and its sums do not wrap.
use Rattle.std.specs.Prelude.{◌≡◌, refl, Bool, true, false, not, ◌||◌, ℕ, ◌+◌, ◌*◌, ◌^◌, ◌≤◌, ◌<◌, eqb}
use Rattle.std.proofs.Common.{sym, ◌∙◌, arith, ne_eqb, ltb-true}
use Rattle.std.proofs.Math.Nat.{pow-le-pow_right}
use Rattle.words.specs.Tests.{and_r}
use Rattle.sorts.specs.Sorts.{is_bits, is_float}
use Rattle.sorts.specs.Good.{good-small, bits-hi}
use Rattle.smtgrammar.specs.declared.Place.{Place}
use Rattle.smtgrammar.specs.declared.Line.{Line}
use Rattle.smtgrammar.specs.State.{Tables, State}
use Rattle.smtgrammar.specs.Allowed.{ok_at, digit_ok}
use Rattle.smtgrammar.specs.Grammar.{size_at}
use Rattle.smtsound.specs.Lines.{Late, Numbered, Worded, Kinded, Paired, Suits, Lined, at0, at1, at2, at3, at4, at5, at6, at7, at8, at9, at10, at11, at12, at13, at14, at15, Sound}
use Rattle.smtlive.specs.At.{at-4}
use Rattle.smtreader.specs.Inside.{Roomed, Fits}

-- the kinds are few
late-few : (k : ℕ) → Late k → k < 256
late-few k Late.fsw = omega arith
late-few k Late.flag = omega arith
late-few k Late.reads = omega arith

numbered-few : (t : Tables) (n k a : ℕ) → Numbered t n k a → k < 256
numbered-few t n k a (Numbered.named lo hi h) = omega arith
numbered-few t n k a Numbered.fsw = omega arith
numbered-few t n k a (Numbered.flag h) = omega arith
numbered-few t n k a (Numbered.reads h e) = omega arith

-- an FpToIeeeBv reads a number below its own
pub numbered-low : {t : Tables} {n k a : ℕ} → Numbered t n k a → k ≡ 26 → a < n
numbered-low (Numbered.named lo hi h) e = absurd (omega arith)
numbered-low Numbered.fsw e = absurd (omega arith)
numbered-low (Numbered.flag h) e = absurd (omega arith)
numbered-low (Numbered.reads h z) e = h

worded-few : (k s : ℕ) → Worded k s → k < 256
worded-few k s (Worded.equal h) = omega arith
worded-few k s (Worded.sum lo hi h) = omega arith
worded-few k s (Worded.root lo hi h) = omega arith
worded-few k s (Worded.pattern h) = omega arith
worded-few k s (Worded.whole h) = omega arith

kinded-few : (k s r : ℕ) → Kinded k s r → (k < 256) × (r < 65535)
kinded-few k s r (Kinded.mask lo hi h) = (omega arith, omega arith)
kinded-few k s r (Kinded.both lo hi) = (omega arith, omega arith)
kinded-few k s r Kinded.negation = (omega arith, omega arith)
kinded-few k s r (Kinded.choice h) = (omega arith, omega arith)
kinded-few k s r (Kinded.extract h i j) = (omega arith, omega arith)
kinded-few k s r (Kinded.join h) = (omega arith, omega arith)
kinded-few k s r (Kinded.sum lo hi h i) = (omega arith, omega arith)
kinded-few k s r (Kinded.compare lo hi) = (omega arith, omega arith)
kinded-few k s r Kinded.nan = (omega arith, omega arith)
kinded-few k s r (Kinded.root lo hi h i) = (omega arith, omega arith)
kinded-few k s r (Kinded.whole h i) = (omega arith, omega arith)
kinded-few k s r (Kinded.convert h i) = (omega arith, omega arith)

paired-few : (k s r x : ℕ) → Paired k s r x → (k < 256) × (r < 65535)
paired-few k s r x (Paired.mask lo hi h) = (omega arith, omega arith)
paired-few k s r x (Paired.equal h) = (omega arith, omega arith)
paired-few k s r x (Paired.both lo hi) = (omega arith, omega arith)
paired-few k s r x (Paired.choice h) = (omega arith, omega arith)
paired-few k s r x (Paired.join h i j) = (omega arith, omega arith)
paired-few k s r x (Paired.sum lo hi h i) = (omega arith, omega arith)
paired-few k s r x (Paired.compare lo hi h) = (omega arith, omega arith)

sort-small : (t : Tables) (n s : ℕ) → Suits t n s → s < 3905
sort-small t n s h = let z = good-small s (record { is = either (eqb s 0) (is_bits s || is_float s) h.is }) in omega arith
  where
    either : (x y : Bool) → y ≡ true → (x || y) ≡ true
    either true y e = refl
    either false y e = e

-- the node of a line has a number
pub node-small : {t : Tables} {p : Place} {l : Line} → Lined t p l → l.node < 65535
node-small at0 = omega arith
node-small (at1 q) = omega arith
node-small (at2 d) = d.inside
node-small (at3 d k) = d.inside
node-small (at4 d lo hi small zeros) = d.inside
node-small (at5 d k) = d.inside
node-small (at6 q) = omega arith
node-small (at7 d) = d.inside
node-small (at8 d f) = d.inside
node-small (at9 d f w) = d.inside
node-small (at10 d f w) = d.inside
node-small (at11 d f u g w) = d.inside
node-small (at12 d f u w i j k) = d.inside
node-small (at13 d f i) = d.inside
node-small (at14 x d f i c z k) = d.inside
node-small (at15 q) = omega arith

-- the high word of a constant of fewer than 80 digits
high_small : (a b e m s : ℕ) → is_bits s ≡ true → 1 ≤ m → e + m ≡ s → b * 2 ^ 64 + a < 2 ^ e → b < 32768
high_small a b e m s h i j k =
    let y = bits-hi s h in
    let x : e ≤ 79 = omega arith in
    let z : 2 ^ e ≤ 2 ^ 79 = pow-le-pow_right (omega arith) x in
    omega arith

-- a digit that is allowed keeps the number below 2^64
digits : (t : Tables) (p : Place) (l : Line) (v : ℕ) → (v ≡ 10 → ⊥) → digit_ok t p l v ≡ true → 10 * l.a + v < 2 ^ 64
unfolding digit_ok
digits t p l v z e = ltb-true (10 * l.a + v) (2 ^ 64) (and_r (eqb l.left 0 || not (eqb l.a 0)) _ (rw (ne_eqb v 10 z) at e))

-- of a state with the tables u, over columns t that have room for the line's node
module _ (t u : Tables) (p : Place) (few : p.count < 65536) (v : ℕ) where
  plain : (l : Line) → Roomed t l.node → l.node < 65535 → v < size_at l.stage → l.kind < 256 → l.sort < 3905 → l.b < 65536 → l.r < 65535
      → (l.stage ≡ 4 → ⊥) → (l.stage ≡ 5 → ⊥) → (l.stage ≡ 14 → ⊥) → Fits t p l v
  plain l room n below k s b r e f g = record {
    room = room;
    node = n;
    kind = k;
    sort = s;
    high = b;
    rounding = r;
    count = few;
    below = below;
    digit = λ z. absurd (e z);
    reads = λ z. absurd (f z);
    constant = λ z. absurd (g z);
  }

  fit : (l : Line) → Lined u p l → Roomed t l.node → l.node < 65535 → v < size_at l.stage → ok_at u p l v ≡ true → Fits t p l v
  fit l at0 h n b e = plain l h n b (omega arith) (omega arith) (omega arith) (omega arith) (λ z. omega arith) (λ z. omega arith) (λ z. omega arith)
  fit l (at1 q) h n b e = plain l h n b (omega arith) (omega arith) (omega arith) (omega arith) (λ z. omega arith) (λ z. omega arith) (λ z. omega arith)
  fit l (at2 d) h n b e = plain l h n b (omega arith) (omega arith) (omega arith) (omega arith) (λ z. omega arith) (λ z. omega arith) (λ z. omega arith)
  fit l (at3 d k) h n b e = plain l h n b (late-few _ k) (omega arith) (omega arith) (omega arith) (λ z. omega arith) (λ z. omega arith) (λ z. omega arith)
  fit l (at4 d lo hi small zeros) h n b e = record {
    room = h;
    node = n;
    kind = omega arith;
    sort = omega arith;
    high = omega arith;
    rounding = omega arith;
    count = few;
    below = b;
    digit = λ _ z. digits u p l v z (sym (at-4 u p l v refl).ok-is ∙ e);
    reads = λ z. absurd (omega arith);
    constant = λ z. absurd (omega arith);
  }
  fit l (at5 d k) h n b e = record {
    room = h;
    node = n;
    kind = numbered-few _ _ _ _ k;
    sort = omega arith;
    high = omega arith;
    rounding = omega arith;
    count = few;
    below = b;
    digit = λ z. absurd (omega arith);
    reads = λ _ z. (let a = numbered-low k z in let m = h.sorts in omega arith);
    constant = λ z. absurd (omega arith);
  }
  fit l (at6 q) h n b e = plain l h n b (omega arith) (omega arith) (omega arith) (omega arith) (λ z. omega arith) (λ z. omega arith) (λ z. omega arith)
  fit l (at7 d) h n b e = plain l h n b (omega arith) (omega arith) (omega arith) (omega arith) (λ z. omega arith) (λ z. omega arith) (λ z. omega arith)
  fit l (at8 d f) h n b e = plain l h n b (omega arith) (sort-small _ _ _ f) (omega arith) (omega arith) (λ z. omega arith) (λ z. omega arith) (λ z. omega arith)
  fit l (at9 d f w) h n b e = plain l h n b (worded-few _ _ w) (sort-small _ _ _ f) (omega arith) (omega arith) (λ z. omega arith) (λ z. omega arith) (λ z. omega arith)
  fit l (at10 d f w) h n b e = let k = kinded-few _ _ _ w in plain l h n b k.0 (sort-small _ _ _ f) (omega arith) k.1 (λ z. omega arith) (λ z. omega arith) (λ z. omega arith)
  fit l (at11 d f u g w) h n b e = let k = paired-few _ _ _ _ w in plain l h n b k.0 (sort-small _ _ _ f) (omega arith) k.1 (λ z. omega arith) (λ z. omega arith) (λ z. omega arith)
  fit l (at12 d f u w i j k) h n b e = plain l h n b (omega arith) (sort-small _ _ _ f) (let z = w.below in let y = d.inside in omega arith) (omega arith) (λ z. omega arith) (λ z. omega arith) (λ z. omega arith)
  fit l (at13 d f i) h n b e = plain l h n b (omega arith) (sort-small _ _ _ f) (omega arith) (omega arith) (λ z. omega arith) (λ z. omega arith) (λ z. omega arith)
  fit l (at14 x d f i c z k) h n b e =
      let g = high_small _ _ _ _ _ i c z k in
      record {
        room = h;
        node = n;
        kind = omega arith;
        sort = sort-small _ _ _ f;
        high = omega arith;
        rounding = omega arith;
        count = few;
        below = b;
        digit = λ y. absurd (omega arith);
        reads = λ y. absurd (omega arith);
        constant = λ _. g;
      }
  fit l (at15 q) h n b e = plain l h n b (omega arith) (omega arith) (omega arith) (omega arith) (λ z. omega arith) (λ z. omega arith) (λ z. omega arith)

-- what is known of the state, with few nodes, makes each choice fit the columns t
pub fits : (σ : State) (t : Tables) (v : ℕ) → Sound σ → σ.place.count < 65536 → Roomed t σ.line.node → v < size_at σ.line.stage
    → ok_at σ.tables σ.place σ.line v ≡ true → Fits t σ.place σ.line v
fits σ t v s few h b e = fit t σ.tables σ.place few v σ.line s.lined h (node-small s.lined) b e
