-- Each number is written where what is written so far ends.
use Rattle.std.proofs.Common.{◌≡◌, ℕ, ◌+◌, ◌-◌, ◌≤◌, Bool, cond, leb, List, ◌∷◌, ◌++◌, length, drop, replicate, sym, ap, ◌∙◌, arith, length-append}
use Rattle.std.proofs.lemmas.List.{append_assoc, append-nil, drop-replicate, length-replicate}
use Rattle.octets.specs.Numbers.{big_endian}
use Rattle.octets.specs.Overwriting.{overwritten}
use Rattle.octets.proofs.Numbers.{length-big_endian}
use Rattle.octets.proofs.Overwrites.{written_behind, written_where_it_fits}
use Rattle.entries.specs.Entries.{entry_bytes, mark}
use Rattle.entries.proofs.cell.spelled_out.Goals as goal

-- One number of n bytes more, over the first of the zeros that are left.
more : (front old new : List ℕ) (at n left value : ℕ) (fits : Bool) → old ≡ front ++ replicate left 0 → length front ≡ at → n ≤ left → fits ≡ leb (at + n) (length old) → new ≡ cond fits (overwritten at (big_endian n value) old) old → new ≡ (front ++ big_endian n value) ++ replicate (left - n) 0
more front old new at n left value fits was long room f e =
    let part = big_endian n value in
    let there : at + n ≤ length old = omega (arith, ap length was, length-append front (replicate left 0), length-replicate {A = ℕ} left 0) in
    written_where_it_fits at n part old new fits f e there
    ∙ ap (overwritten at part) was
    ∙ written_behind front (replicate left 0) part at long
    ∙ ap (λ k. (front ++ part) ++ drop k (replicate left 0)) (length-big_endian n value)
    ∙ ap (λ ys. (front ++ part) ++ ys) (drop-replicate n left 0)

pub returns-clause-value : goal.returns-clause-value
unfolding entry_bytes
returns-clause-value c =
    let e = c.args.entry.now in
    let head = mark ∷ (c.args.kind ∷ e.key) in
    let group = big_endian 2 e.group in
    let slot = big_endian 4 e.slot in
    let filing = big_endian 4 e.filing in
    let twelve : length e.key ≡ 12 = ap length (sym c.copy_from_slice.ensures.after) ∙ c.copy_from_slice.ensures.len in
    let one = more head _ c.write_at.new.memory 14 2 10 e.group c.write_at.result (ap (λ ys. mark ∷ (c.args.kind ∷ (ys ++ replicate 10 0))) c.copy_from_slice.ensures.after) (omega (arith, twelve)) (omega arith) c.write_at.ensures.fits c.write_at.ensures.after in
    let two = more (head ++ group) _ c.write_at-2.new.memory 16 4 8 e.slot c.write_at-2.result one (omega (arith, twelve, length-append head group, length-big_endian 2 e.group)) (omega arith) c.write_at-2.ensures.fits c.write_at-2.ensures.after in
    let three = more ((head ++ group) ++ slot) _ c.write_at-3.new.memory 20 4 4 e.filing c.write_at-3.result two (omega (arith, twelve, length-append (head ++ group) slot, length-append head group, length-big_endian 2 e.group, length-big_endian 4 e.slot)) (omega arith) c.write_at-3.ensures.fits c.write_at-3.ensures.after in
    three ∙ append-nil (((head ++ group) ++ slot) ++ filing) ∙ append_assoc (head ++ group) slot filing ∙ append_assoc head group (slot ++ filing)
