-- The parts of a vector that was found stand in order, inside its pack; one vector after another is tried.
use mathlib.Core.Path.{◌≡◌, sym, ◌∙◌}
use mathlib.Core.List.{List}
use Prim.Native.Nat.{ℕ, ◌+◌, ◌-◌, ◌≤◌, ◌<◌}
use native.Mathlib.Omega.{arith}
use lib.ListN.{length}
use borrow.Author.Tests.{le-leb, lt-leb}
use Rattle.std.specs.Prelude.{Option, Some, None, unwrap_or}
use Rattle.columns.specs.Columns.{columns}
use Rattle.columns.specs.Fixed.{field_of}
use Rattle.vectors.specs.declared.Packed.{Packed}
use Rattle.vectors.specs.declared.Results.{Results}
use Rattle.vectors.specs.Passing.{scored}
use Rattle.vectors.specs.Packs.{head_bytes, or_nought, number_at, vector, vector_at, part, Lies, tally, Tried, over, broken, one}

module _ (at n : ℕ) (x : Option Packed) (lies : Lies at n x) (v : Packed) (e : x ≡ Some v) where
  inside : Lies at n (Some v)
  inside = rw e at lies

  pub name_input : v.name ≤ v.input
  name_input = inside.1

  pub input_output : v.input ≤ v.output
  input_output = inside.2

  pub output_end : v.output ≤ v.end
  output_end = inside.3

  pub end_pack : v.end ≤ n
  end_pack = inside.4

  pub input_pack : v.input ≤ n
  input_pack = omega (arith, input_output, output_end, end_pack)

  pub output_pack : v.output ≤ n
  output_pack = omega (arith, output_end, end_pack)

  at-end : at < v.end
  at-end = omega (arith, inside.0, name_input, input_output, output_end)

  -- what is left of the pack behind the vector is less
  pub less_left : n - v.end < n - at
  less_left = omega (arith, at-end, end_pack)

  -- one vector more is still no more than the bytes up to its end
  pub one_more : (k : ℕ) → k ≤ at → k + 1 ≤ v.end
  one_more k h = omega (arith, at-end)

pub ruleset packs = (name_input, input_output, output_end, end_pack, input_pack, output_pack, less_left, one_more)

-- ---- a vector is read off its numbers

module _ (p : List ℕ) (at : ℕ) (f : Option ℕ) (is : f ≡ field_of (columns p at (at + 8))) where
  pub number_is : (r : ℕ) → r ≡ unwrap_or f 0 → r ≡ number_at p at
  unfolding number_at
  number_is r e = rw (← is) (by f e)
    where
      by : (g : Option ℕ) → r ≡ unwrap_or g 0 → r ≡ or_nought g
      by (Some n) q = q
      by None q = q

pub same_number : (p : List ℕ) (at n r : ℕ) → n ≡ number_at p at → r ≡ n → r ≡ number_at p at
same_number p at n r e h = h ∙ e

pub ruleset numbers = (number_is, same_number)

pub vector_short : (p : List ℕ) (at : ℕ) → at ≤ length p → length p - at < head_bytes → None ≡ vector_at p at
unfolding vector_at
vector_short p at h k = rw (lt-leb (at + head_bytes + number_at p (at + 32) + number_at p (at + 40) + number_at p (at + 48)) (length p) (omega arith))

module _ (p : List ℕ) (at a b c : ℕ) (ea : a ≡ number_at p (at + 32)) (eb : b ≡ number_at p (at + 40)) (ec : c ≡ number_at p (at + 48)) where
  pub vector_cut : length p < at + head_bytes + a + b + c → None ≡ vector_at p at
  unfolding vector_at
  vector_cut h = rw (← ea, ← eb, ← ec, lt-leb (at + head_bytes + a + b + c) (length p) h)

  pub vector_whole : (op list number place : ℕ) → op ≡ number_at p at → list ≡ number_at p (at + 8) → number ≡ number_at p (at + 16) → place ≡ number_at p (at + 24)
      → at + head_bytes + a + b + c ≤ length p
      → Some (vector op list number place (at + head_bytes) (at + head_bytes + a) (at + head_bytes + a + b) (at + head_bytes + a + b + c)) ≡ vector_at p at
  unfolding vector_at
  vector_whole op list number place e f g k h = rw (← ea, ← eb, ← ec, ← e, ← f, ← g, ← k, le-leb (at + head_bytes + a + b + c) (length p) h)

pub ruleset vectors = (vector_short, vector_cut, vector_whole)

-- ---- the vectors up to `at` were tried: what comes of those behind comes of all

pub record Leads (p : List ℕ) (room at n k : ℕ) : Type 0 where
  on : (r : Results) → Tried p room at n k r → Tried p room 0 0 0 r

pub leads_start : (p : List ℕ) (room : ℕ) → Leads p room 0 0 0
leads_start p room = record { on = λ r t. t }

module _ (p : List ℕ) (room at n k : ℕ) (l : Leads p room at n k) where
  pub leads_over : length p ≤ at → Tried p room 0 0 0 (tally n k)
  leads_over h = l.on (tally n k) (over h)

  module _ (x : Option Packed) (is : x ≡ vector_at p at) (lt : at < length p) where
    pub leads_broken : x ≡ None → Tried p room 0 0 0 (tally n k)
    leads_broken e = l.on (tally n k) (broken lt (sym is ∙ e))

    pub leads_one : (v : Packed) (s : ℕ) (o : List ℕ) → x ≡ Some v → length o ≡ room
        → s ≡ scored v.op v.list v.number v.place (part p v.input v.output) (part p v.output v.end) (length o) → Leads p room v.end (n + 1) (k + s)
    leads_one v s o e same es =
        record { on = λ r t. l.on r (one lt (sym is ∙ e) (rw (es, same) at t)) }

pub ruleset leading = (leads_start, leads_over, leads_broken, leads_one)
