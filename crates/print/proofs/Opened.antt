-- The Global fields that reading accepts are those behind the opening. Assumes nothing.
use mathlib.Core.Path.{◌≡◌, refl}
use mathlib.Core.Bool.{true, false, cond}
use mathlib.Core.List.{List, []}
use Prim.Native.Nat.{ℕ}
use native.Mathlib.Omega.{arith}
use Rattle.columns.specs.Refusal.{accepted}
use Rattle.cards.specs.declared.Counts.{Counts}
use Rattle.records.specs.Record.{values, values_at}
use Rattle.records.specs.Global.{first_field, opening_of}
use Rattle.model.specs.Read.{GlobalRead, global_text, given, global_in}
use Rattle.model.proofs.ReadApart.{GlobalApart, alone, more, global_apart}
use Rattle.std.specs.Prelude.{Some, None}
use Rattle.records.specs.declared.Opening.{Opening}
use Rattle.print.specs.Bytes.{global_bytes, values_in}
use Rattle.print.specs.Whole.{field_bytes}

-- the delimiters are those of the opening, the fields those behind it
pub opened-read : (f : List ℕ) (k : Counts) (o : Opening) (g : GlobalRead) → opening_of (global_text f k) ≡ Some o → global_in f k ≡ accepted g
    → (g.parameter ≡ o.parameter) × (g.record_end ≡ o.closing) × (field_bytes o.parameter o.closing (global_text f k) o.next o.last ≡ global_bytes g.fields)
unfolding field_bytes global_bytes
opened-read f k o g eo h = by (global_apart f k g h)
  where
    by : GlobalApart k (global_text f k) g → (g.parameter ≡ o.parameter) × (g.record_end ≡ o.closing)
        × (cond o.last [] (global_bytes (given first_field (values_in (values_at 72 o.parameter o.closing (global_text f k) o.next)))) ≡ global_bytes g.fields)
    by (alone p' d' next e s eg) =
        let ep : p' ≡ o.parameter = cc in
        let ed : d' ≡ o.closing = cc in
        let en : true ≡ o.last = cc in
        rw (eg, ← en) (ep, ed, refl)
    by (more p' d' next vs end e ev s fit eg) =
        let ep : p' ≡ o.parameter = cc in
        let ed : d' ≡ o.closing = cc in
        let ef : next ≡ o.next = cc in
        let en : false ≡ o.last = cc in
        let v : values_at 72 o.parameter o.closing (global_text f k) o.next ≡ values vs end = rw (ep, ed, ef) at ev in
        rw (eg, ← en, v) (ep, ed, refl)

-- a wrong opening is refused
pub opening_right : (f : List ℕ) (k : Counts) (g : GlobalRead) → global_in f k ≡ accepted g → opening_of (global_text f k) ≡ None → ⊥
opening_right f k g h w = by (global_apart f k g h)
  where
    by : GlobalApart k (global_text f k) g → ⊥
    by (alone p d next e s eg) = let z : ◌≡◌ {A = ℕ} 0 1 = cc in omega arith
    by (more p d next vs end e ev s fit eg) = let z : ◌≡◌ {A = ℕ} 0 1 = cc in omega arith
