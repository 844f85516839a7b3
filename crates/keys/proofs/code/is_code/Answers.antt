-- Each turn takes one byte off what is left.
use Rattle.std.proofs.Common.{rules, ◌≡◌, ℕ, Bool, true, false, List, [], ◌∷◌, length, Option, Some, None, sym, refl, ap, ◌∙◌, arith}
use denote.Param.Members.{Mut, Called}
use denote.Ref.{Bor}
use Rattle.std.specs.Option.{MatchOption, is_some}
use Rattle.std.specs.List.{FoldsTo}
use Rattle.std.specs.Iterator.{Yields}
use Rattle.std.specs.Iterator.Adapters.{enumerate_steps}
use Rattle.std.specs.Slice.Iter.{iter_steps}
use Rattle.std.specs.declared.iter.Enumerate.{Enumerate}
use Rattle.std.specs.declared.slice.Iter.{Iter}
use Rattle.keys.specs.Codes.{after_byte}
use Rattle.keys.proofs.Codes.{code_from, accepted_from, refused_from, admissible_is}
use Rattle.keys.proofs.code.is_code.Goals as goal

abbrev Bytes : Type 0
Bytes = Enumerate (Iter ℕ)

abbrev left_of : Bool → Bytes → Bool
left_of ended s = code_from ended s.count s.iter.rest.now

nothing_left : (ended : Bool) (place : ℕ) (bs : List ℕ) → length bs ≡ 0 → true ≡ code_from ended place bs
nothing_left ended place [] h = refl
nothing_left ended place (b ∷ bs) h = absurd (omega (arith, h))

module _ {F : Type 0} (g : Mut F (Bool × ((ℕ × Bor ℕ) × Unit {0})) (Option Bool)) (acts : (f : F) (ended : Bool) (x : ℕ × Bor ℕ) (v : Option Bool) (f' : F) → Called g f (ended, (x, tt)) v f' → v ≡ after_byte x.1.now ended x.0) where
  abbrev goes_on : F × Bool → ℕ × Bor ℕ → F × Bool → Type 0
  goes_on p x q = (v : Option Bool) × Called g p.0 (p.1, (x, tt)) v q.0 × (v ≡ Some q.1)

  goes : (s : Bytes) (p : F × Bool) (xs : List (ℕ × Bor ℕ)) (t : Bytes) (q : F × Bool) → Yields (enumerate_steps iter_steps) s xs t → FoldsTo {P = F × Bool} goes_on p xs q → left_of p.1 s ≡ left_of q.1 t
  goes s p [] t q y c = ap (left_of p.1) y ∙ ap (λ (w : F × Bool). left_of w.1 t) c
  goes s p (x ∷ xs) t q y c =
      ap (code_from p.1 s.count) y.1.0
      ∙ accepted_from p.1 c.0.1 s.count x.1.now y.0.iter.rest.now (ap (after_byte x.1.now p.1) (sym y.1.1) ∙ sym (acts p.0 p.1 x c.1.0 c.0.0 c.1.1) ∙ c.1.2)
      ∙ ap (λ n. code_from c.0.1 n y.0.iter.rest.now) (sym y.1.2)
      ∙ goes y.0 c.0 xs t q y.2 c.2

  ends : (E : Type 0) (a : Bool) (f' : F) (o : Option (ℕ × Bor ℕ)) (t u : Bytes) (r : Option Bool) → enumerate_steps iter_steps t o u → MatchOption o (r ≡ Some a) (λ x. (v : Option Bool) × (h : F) × (e : E) × Called g f' (a, (x, tt)) v h × (v ≡ None) × (r ≡ None)) → is_some r ≡ left_of a t
  ends E a f' None t u r y h = ap is_some h ∙ nothing_left a t.count t.iter.rest.now y.0.0
  ends E a f' (Some x) t u r y h =
      ap is_some h.5
      ∙ sym (ap (code_from a t.count) y.0 ∙ refused_from a t.count x.1.now u.iter.rest.now (sym h.4 ∙ acts f' a x h.0 h.1 h.3 ∙ ap (after_byte x.1.now a) y.1))

pub returns : goal.returns
returns c =
    let all = c.args.bytes.now in
    let ran = c.try_fold.ensures.ran in
    c.is_some.ensures
    ∙ ends _ (λ f ended x v f' k. search (rules, k)) _ ran.3 ran.2 ran.1 ran.4.0 c.try_fold.new.self c.try_fold.result ran.4.2 ran.6
    ∙ sym (goes _ (λ f ended x v f' k. search (rules, k)) c.enumerate.result (_, false) ran.0 ran.4.0 (ran.2, ran.3) ran.4.1 ran.5)
    ∙ ap (λ n. code_from false n c.enumerate.result.iter.rest.now) c.enumerate.ensures.count
    ∙ ap (λ (i : Iter ℕ). code_from false 0 i.rest.now) c.enumerate.ensures.source
    ∙ ap (code_from false 0) c.iter.ensures.rest
    ∙ admissible_is all (omega arith)
