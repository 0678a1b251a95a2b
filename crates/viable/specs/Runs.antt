-- A text is a run of an automaton: the state decides which tokens may follow and whether the text may end, and each token gives the next state.
use Rattle.std.specs.Prelude.{◌≡◌, refl, Bool, true, false, List, [], ◌∷◌, ◌++◌, ℕ, suc, ◌+◌, ◌≤◌, ◌<◌, length, take, drop}
use Rattle.std.proofs.Common.{sym, ap, ◌∙◌, append_assoc, arith, length-append, length-drop, take-take, length-take-le, drop-drop}
use Rattle.std.proofs.lemmas.List.{append_cancel_left, take-append-le}
use Rattle.std.proofs.Math.Seq.{take-append_seam}
use Rattle.viable.specs.Grammar.{Gram, Apart, Got, Bad, clash, past, meets}

-- t is a text from the state σ on, and leaves the state ω
pub data Runs {S : Type 0} (Token : S → Gram S) (done : S → Bool) : S → List ℕ → S → Type 0 where
  end : {σ : S} → done σ ≡ true → Runs Token done σ [] σ
  on : {σ σ' ω : S} {t : List ℕ} (l u : List ℕ) → t ≡ l ++ u → Token σ l σ' → Runs Token done σ' u ω → Runs Token done σ t ω

-- no bytes agree with none, and a text that begins with some is not empty
nothing : (n : ℕ) (x : List ℕ) → 0 < length x → take (suc n) [] ≡ take (suc n) x → ⊥
nothing n [] h e = omega arith
nothing n (b ∷ x) h e = omega (arith, ap length e)

full : (l u : List ℕ) → 0 < length l → 0 < length (l ++ u)
full l u h = rw (length-append l u) (omega arith)

-- how many bytes are left behind a text that was read
left : {S : Type 0} (G : Gram S) (x : List ℕ) (σ : S) (n : ℕ) → Got G x σ n → length x ≡ n + length (drop n x)
left G x σ n g =
    ap length g.here ∙ length-append g.text (drop n x) ∙ ap (λ (k : ℕ). k + length (drop n x)) g.long

module _ {S : Type 0} (Token : S → Gram S) (done : S → Bool) where
  -- some text goes on from here
  pub record Goes (σ : S) : Type 0 where
    pub text : List ℕ
    pub last : S
    pub is : Runs Token done σ text last

  -- the bytes before p can go on to a text; with the byte at p, or the end there, there is none
  pub record Stops (σ : S) (x : List ℕ) (p : ℕ) : Type 0 where
    pub within : p ≤ length x
    pub more : List ℕ
    pub last : S
    pub can : Runs Token done σ (take p x ++ more) last
    pub cannot : (t : List ℕ) (ω : S) → Runs Token done σ t ω → take (suc p) t ≡ take (suc p) x → ⊥

  -- no token is empty
  abbrev pub Full : Type 0
  Full = (σ σ' : S) (l : List ℕ) → Token σ l σ' → 0 < length l

  -- a token that stops stops the text
  pub token-stops : (σ : S) (x : List ℕ) (p : ℕ) → 0 < length x → ((l : List ℕ) (σ' : S) → Token σ l σ' → Goes σ') → Bad (Token σ) x p → Stops σ x p
  token-stops σ x p h live b =
      let s = live (take p x ++ b.more) b.value b.can in
      record {
        within = b.within;
        more = b.more ++ s.text;
        last = s.last;
        can = on (take p x ++ b.more) s.text (sym (append_assoc (take p x) b.more s.text)) b.can s.is;
        cannot = none;
      }
    where
      none : (t : List ℕ) (ω : S) → Runs Token done σ t ω → take (suc p) t ≡ take (suc p) x → ⊥
      none t ω (end d) e = nothing p x h e
      none t ω (on l u q m r) e = b.cannot l _ u m (rw (← q) e)

  -- the text ends where it may not
  pub end-stops : Full → (σ : S) → done σ ≡ false → Goes σ → Stops σ [] 0
  end-stops some σ d s = record { within = omega arith; more = s.text; last = s.last; can = s.is; cannot = none }
    where
      none : (t : List ℕ) (ω : S) → Runs Token done σ t ω → take 1 t ≡ [] → ⊥
      none t ω (end d') e = clash (sym d ∙ d')
      none t ω (on l u q m r) e = nothing 0 (l ++ u) (full l u (some _ _ l m)) (sym (rw q at e))

  -- the text goes on where no token may follow
  pub more-stops : (σ : S) (x : List ℕ) → 0 < length x → done σ ≡ true → ((l : List ℕ) (σ' : S) → Token σ l σ' → ⊥) → Stops σ x 0
  more-stops σ x h d shut = record { within = omega arith; more = []; last = σ; can = end d; cannot = none }
    where
      none : (t : List ℕ) (ω : S) → Runs Token done σ t ω → take 1 t ≡ take 1 x → ⊥
      none t ω (end d) e = nothing 0 x h e
      none t ω (on l u q m r) e = shut l _ m

  -- behind a token that is read, what is left decides
  pub on-stops : (σ σ' : S) (x : List ℕ) (n p : ℕ) → 0 < n → Apart (Token σ) → Got (Token σ) x σ' n → Stops σ' (drop n x) p → Stops σ x (n + p)
  on-stops σ σ' x n p h apart g b =
      let f : take (n + p) x ≡ g.text ++ take p (drop n x) = ap (take (n + p)) g.here ∙ past g.text (drop n x) n p g.long in
      let k = left (Token σ) x σ' n g in
      record {
        within = let q = b.within in omega arith;
        more = b.more;
        last = b.last;
        can =
            on g.text (take p (drop n x) ++ b.more)
            (ap (λ (l : List ℕ). l ++ b.more) f ∙ append_assoc g.text (take p (drop n x)) b.more)
            g.is b.can;
        cannot = none (omega arith);
      }
    where
      none : 0 < length x → (t : List ℕ) (ω : S) → Runs Token done σ t ω → take (suc (n + p)) t ≡ take (suc (n + p)) x → ⊥
      none k t ω (end d) e = nothing (n + p) x k e
      none k t ω (on l u q m r) e =
          let z = meets (Token σ) x σ' n p apart g l u _ m (rw (← q) e) in
          b.cannot u ω (rw z.value at r) z.rest

  pub on-reads : (σ σ' ω : S) (x : List ℕ) (n : ℕ) → Got (Token σ) x σ' n → Runs Token done σ' (drop n x) ω → Runs Token done σ x ω
  on-reads σ σ' ω x n g r = on g.text (drop n x) g.here g.is r

  -- a text of no bytes leaves the state; any other has a first token
  unmoved : Full → (σ ω : S) (t : List ℕ) → Runs Token done σ t ω → t ≡ [] → σ ≡ ω
  unmoved some σ ω t (end d) e = refl
  unmoved some σ ω t (on l u q m r) e = absurd (let h = full l u (some _ _ l m) in omega (arith, ap length (sym e ∙ q)))

  record Head (σ ω : S) (t : List ℕ) : Type 0 where
    token : List ℕ
    rest : List ℕ
    next : S
    whole : t ≡ token ++ rest
    is : Token σ token next
    runs : Runs Token done next rest ω

  head : (σ ω : S) (t : List ℕ) → Runs Token done σ t ω → 0 < length t → Head σ ω t
  head σ ω t (end d) h = absurd (omega arith)
  head σ ω t (on l u q m r) h = record { token = l; rest = u; next = _; whole = q; is = m; runs = r }

  -- a text leaves one state only
  pub only : Full → ((σ : S) → Apart (Token σ)) → (σ ω ω' : S) (t : List ℕ) → Runs Token done σ t ω → Runs Token done σ t ω' → ω ≡ ω'
  only some apart σ ω ω' t (end d) r = unmoved some σ ω' [] r refl
  only some apart σ ω ω' t (on {σ' = σ₁} l u q m r) r' =
      let s = head σ ω' t r' (rw q (full l u (some σ σ₁ l m))) in
      let e : take (length l) (s.token ++ s.rest) ≡ l = rw (← s.whole, q) (take-append_seam l u) in
      let k = (apart σ).one l s.token σ₁ s.next s.rest m s.is e in
      let f : s.rest ≡ u = append_cancel_left l _ _ (rw k.0 at (sym s.whole ∙ q)) in
      only some apart σ₁ ω ω' u r (rw (k.1, f) at s.runs)

  -- what a loop over the tokens keeps: `at` bytes were read and left the state σ, and what is left decides for the whole
  pub record Carries (σ₀ : S) (x : List ℕ) (σ : S) (at : ℕ) : Type 0 where
    pub inside : at ≤ length x
    pub stops : (p : ℕ) → Stops σ (drop at x) p → Stops σ₀ x (at + p)
    pub reads : (ω : S) → Runs Token done σ (drop at x) ω → Runs Token done σ₀ x ω

  pub carries-start : (σ₀ : S) (x : List ℕ) → Carries σ₀ x σ₀ 0
  carries-start σ₀ x = record { inside = omega arith; stops = λ p s. (let z : 0 + p ≡ p = omega arith in rw z s); reads = λ ω r. r }

  -- a turn: one more token
  pub carries-on : Full → ((σ : S) → Apart (Token σ)) → (σ₀ σ σ' : S) (x : List ℕ) (at n : ℕ) → Carries σ₀ x σ at → Got (Token σ) (drop at x) σ' n
      → Carries σ₀ x σ' (at + n)
  carries-on some apart σ₀ σ σ' x at n c g =
      let d : drop n (drop at x) ≡ drop (at + n) x = drop-drop n at x in
      let h : 0 < n = (let b = some σ σ' g.text g.is in let l = g.long in omega arith) in
      let long = left (Token σ) (drop at x) σ' n g in
      record {
        inside = let i = c.inside in omega (arith, length-drop at x);
        stops = λ p s.
            let z : at + (n + p) ≡ at + n + p = omega arith in
            rw z at (c.stops (n + p) (on-stops σ σ' (drop at x) n p h (apart σ) g (rw d s)));
        reads = λ ω r. c.reads ω (on-reads σ σ' ω (drop at x) n g (rw d r));
      }

  -- no text is stopped at
  pub never : (σ : S) (x : List ℕ) (p : ℕ) → Stops σ x p → (ω : S) → Runs Token done σ x ω → ⊥
  never σ x p s ω r = s.cannot x ω r refl

  -- and there is one place only
  pub one_place : (σ : S) (x : List ℕ) (p q : ℕ) → Stops σ x p → Stops σ x q → p < q → ⊥
  one_place σ x p q s t h =
      s.cannot (take q x ++ t.more) t.last t.can
      (take-append-le (suc p) (take q x) t.more (rw (length-take-le q x t.within) (omega arith)) ∙ take-take (suc p) q x (omega arith))
