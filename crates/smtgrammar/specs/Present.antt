-- Which sorts the nodes below a number have, and what a float can be made of.
use Rattle.std.specs.Prelude.{Bool, false, ◌&&◌, ◌||◌, List, ℕ, zero, suc, ◌+◌, ◌-◌, ltb, eqb, get_or}
use Rattle.sorts.specs.Sorts.{is_float, is_word, pattern_width}
use Rattle.smtgrammar.specs.State.{limit}

module _ (lowest : List ℕ) where
  -- some node below n has the sort s
  abbrev pub below : ℕ → ℕ → Bool
  below s n = ltb (get_or lowest s limit) n

  abbrev pub some_float : ℕ → Bool
  some_float n = (below 2072 n || below 2869 n) || below 3904 n

  abbrev pub some_word : ℕ → Bool
  some_word n = (below 16 n || below 32 n) || below 64 n

  -- .. one of the k widths from u on
  unfoldable pub some_of : ℕ → ℕ → ℕ → Bool
  some_of zero u n = false
  some_of (suc k) u n = below u n || some_of k (u + 1) n

  -- .. a width of u or more
  abbrev pub some_from : ℕ → ℕ → Bool
  some_from u n = some_of (81 - u) u n

  -- two widths below s that add up to it: one of the k from u on, and the rest
  unfoldable pub join_of : ℕ → ℕ → ℕ → ℕ → Bool
  join_of zero u s n = false
  join_of (suc k) u s n = (below u n && below (s - u) n) || join_of k (u + 1) s n

  abbrev pub joins : ℕ → ℕ → Bool
  joins s n = join_of (s - 1) 1 s n

  -- a float of format f can be made of a node below n: of its pattern, of a float, or of a whole number
  abbrev pub source : ℕ → ℕ → Bool
  source f n = (below (pattern_width f) n || some_float n) || (eqb f 3904 && some_word n)

-- a float of format f can be made of a node of sort s
abbrev pub suits : ℕ → ℕ → Bool
suits f s = (eqb s (pattern_width f) || is_float s) || (eqb f 3904 && is_word s)
