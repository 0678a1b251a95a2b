-- NO DEAD ENDS: from every live state some text goes on, and every state that a beginning of a text reaches is live.
use Rattle.std.specs.Prelude.{◌≡◌, refl, false, List, ◌++◌, ℕ, zero, suc, ◌<◌, get_or, replicate, ltb}
use Rattle.std.proofs.Common.{◌∙◌, arith, ltb-true, ltb-false}
use Rattle.std.proofs.lemmas.List.{length-replicate, get_or-replicate}
use Rattle.std.proofs.Math.ListN.{get_or-eq_default}
use Rattle.viable.specs.Grammar.{Some}
use Rattle.viable.specs.Runs.{Runs, end, on, Goes}
use Rattle.smtgrammar.specs.State.{Tables, State, start}
use Rattle.smtgrammar.specs.Tokens.{text_at}
use Rattle.smtgrammar.specs.Next.{next_at}
use Rattle.smtgrammar.specs.Grammar.{Choice, Token, done, Reads}
use Rattle.smtgrammar.specs.declared.Place.{Place}
use Rattle.smtgrammar.specs.declared.Line.{Line}
use Rattle.smtlive.specs.Tests.{by-test}
use Rattle.smtlive.specs.Live.{Tabled, Inside, between, declares, numbered, kinded, counted, wide, defines, sorts, opens, chooses, first, second, third, places, digits, asserts, Live}
use Rattle.smtlive.specs.Rank.{rank, Pick}
use Rattle.smtlive.specs.Picks.{between-pick, number-pick, kind-pick, operand-pick, numeral-pick, width-pick, defines-pick, asserts-pick}
use Rattle.smtlive.specs.TermPicks.{sort-pick, opens-pick, chooses-pick, first-pick, second-pick, third-pick, places-pick, digits-pick}
use Rattle.smtlive.specs.Step.{live-next}

-- a list of one entry
all_same : (n i d : ℕ) → get_or (replicate n d) i d ≡ d
all_same n i d =
    by-test (ltb i n)
    (λ e. get_or-replicate n i d d (ltb-true i n e))
    (λ e. get_or-eq_default (replicate n d) d (let h = ltb-false i n e in rw (length-replicate n d) h))

-- nothing has been read
fresh : (n m : ℕ) → n ≡ 65536 → m ≡ 3905
    → Tabled (record { kinds = replicate n 0; field_a = replicate n 0; field_b = replicate n 0; field_c = replicate n 0; sorts = replicate n 0; lowest = replicate m 65535 })
fresh n m e f = record {
  kinds-long = length-replicate n 0 ∙ e;
  sorts-long = length-replicate n 0 ∙ e;
  lowest-long = length-replicate m 65535 ∙ f;
  there = λ s h. absurd (let z = all_same m s 65535 in omega arith);
  sorted = λ s h. absurd (let z = all_same m s 65535 in omega arith);
  listed = λ i q. absurd (q (all_same n i 0));
  high = λ i q. absurd (q (all_same n i 0));
}

-- no node is there
clear : (i : ℕ) → get_or start.tables.kinds i 0 ≡ 0
clear i = all_same 65536 i 0

pub live-start : Live start
live-start =
    between refl (record {
      kept =
          record {
            tabled = fresh 65536 3905 refl refl;
            least = λ m e q. absurd (q (clear m));
            before = λ m e q. absurd (q (clear m));
            float = λ m e q. absurd (q (clear m));
            gap-high = omega arith;
            gap-free = λ h. clear 0;
            owed-high = omega arith;
            owed-free = λ h. absurd (omega arith);
            owed-sorted = λ h. absurd (omega arith);
            owed-over = λ h. absurd (omega arith);
            owed-can = λ h. absurd (omega arith);
            due-high = omega arith;
            top-high = omega arith;
          };
      part-high = omega arith;
      declaring = λ e. record { free = λ i h. clear i; first = λ i h. absurd (omega arith); next-free = clear 1; next-over = omega arith };
      asserting = λ e. absurd (omega arith);
      fresh-part = λ e. refl;
      fresh-gap = λ e. omega arith;
      fresh-due = λ e. refl;
    })

-- a choice that comes nearer to the end
picked : (t : Tables) (p : Place) (l : Line) → done (record { tables = t; place = p; line = l }) ≡ false → Inside t p l → Pick t p l
picked t p l d (between e b) = between-pick t p l e b d
picked t p l d (declares e o c h) = number-pick t p l o c e h
picked t p l d (numbered e o c n) = kind-pick t p l o c e
picked t p l d (kinded e o c n k) = operand-pick t p l o c e n k
picked t p l d (counted e o c n h k x) = numeral-pick t p l o c e x
picked t p l d (wide e o c n k) = width-pick t p l o c e k
picked t p l d (defines e o h) = defines-pick t p l e o h
picked t p l d (sorts e o c) = sort-pick t p l e o c
picked t p l d (opens e w) = opens-pick t p l w e
picked t p l d (chooses e w c) = chooses-pick t p l w e c
picked t p l d (first e w r) = first-pick t p l w e r.first
picked t p l d (second e w q f) = second-pick t p l w e f
picked t p l d (third e w q f) = third-pick t p l w e f
picked t p l d (places e w k h x) = places-pick t p l w e h x
picked t p l d (digits e w h k) = digits-pick t p l w e h
picked t p l d (asserts e o z h k) = asserts-pick t p l e o k

-- some choice is allowed
pub some : (σ : State) → Live σ → done σ ≡ false → Some (Choice σ)
some σ h d =
    let x = picked σ.tables σ.place σ.line d h in
    record { text = text_at σ.tables σ.place σ.line x.value; value = x.value; is = record { below = x.below; allowed = x.allowed; is = refl } }

-- what a token leads to
pub live-token : (σ τ : State) (x : List ℕ) → Live σ → Token σ x τ → Live τ
live-token σ τ x h m = rw m.to (live-next σ x m.value h m.is)

-- .. again and again, until a text is whole
goes_in : (k : ℕ) (σ : State) → rank σ < k → Live σ → Goes Token done σ
goes_in zero σ r h = absurd (omega arith)
goes_in (suc k) σ r h = by-test (done σ) (λ d. record { text = _; last = σ; is = end d }) (λ d. step d (goes_in k))
  where
    step : done σ ≡ false → ((τ : State) → rank τ < k → Live τ → Goes Token done τ) → Goes Token done σ
    step d f =
        let x = picked σ.tables σ.place σ.line d h in
        let τ = next_at σ.tables σ.place σ.line x.value in
        let u = text_at σ.tables σ.place σ.line x.value in
        let m : Choice σ u x.value = record { below = x.below; allowed = x.allowed; is = refl } in
        let n = x.nearer in
        let g = f τ (omega arith) (live-next σ u x.value h m) in
        record { text = u ++ g.text; last = g.last; is = on u g.text refl (record { value = x.value; is = m; to = refl }) g.is }

-- some text goes on from here
pub goes : (σ : State) → Live σ → Goes Token done σ
goes σ h = goes_in (suc (rank σ)) σ (omega arith) h

-- .. also behind every token
pub token-goes : (σ : State) → Live σ → (x : List ℕ) (τ : State) → Token σ x τ → Goes Token done τ
token-goes σ h x τ m = goes τ (live-token σ τ x h m)

-- the states that the beginnings of texts reach
pub data Reached : State → Type 0 where
  nothing : Reached start
  further : {σ τ : State} (x : List ℕ) → Reached σ → Token σ x τ → Reached τ

pub reached-live : (σ : State) → Reached σ → Live σ
reached-live σ nothing = live-start
reached-live τ (further {σ = σ} x r m) = live-token σ τ x (reached-live σ r) m

-- .. and the states that they leave
runs-live : (σ ω : State) (x : List ℕ) → Live σ → Runs Token done σ x ω → Live ω
runs-live σ ω x h (end d) = h
runs-live σ ω x h (on {σ' = τ} l u q m r) = runs-live τ ω u (live-token σ τ l h m) r

pub reads_live : (x : List ℕ) (ω : State) → Reads x ω → Live ω
reads_live x ω r = runs-live start ω x live-start r
