-- What holds of the bytes of every keep, whatever its make.
use Rattle.std.specs.Prelude.{◌≡◌, ℕ, Bool, List}
use Rattle.keeps.specs.declared.keep.Keep.{Ghosts as KeepOf}
use Rattle.keeps.specs.History.{Put, Alike, AlikeBut}

-- The bytes of the keep k are those of this history: these puts accepted, in order, and these groups retired.
abbrev pub Holds : {K : Type 0} → KeepOf K → K → List Put → (ℕ → Bool) → Type 0
Holds keep k puts gone = keep.bytes k ≡ keep.drawn (keep.numbers k) puts gone

-- Two keeps of one make with equal numbers, whose histories agree but for the cells and locators of retired groups, hold equal bytes.
abbrev pub EqualBytes : {K : Type 0} → KeepOf K → (one other : K) → Type 0
EqualBytes keep one other =
    (puts others : List Put) (gone : ℕ → Bool) → keep.numbers one ≡ keep.numbers other
    → Holds keep one puts gone → Holds keep other others gone → Alike gone puts others
    → keep.bytes one ≡ keep.bytes other

-- Two keeps of one make with equal numbers, whose histories differed only in the cells and locators of one group, hold equal bytes
-- after what was done to them: nothing of that group is left to recover.
abbrev pub NoTrace : {K : Type 0} → KeepOf K → (group : ℕ) (one other one_after other_after : K) → Type 0
NoTrace keep group one other one_after other_after =
    (puts others : List Put) (gone : ℕ → Bool) → keep.numbers one ≡ keep.numbers other
    → Holds keep one puts gone → Holds keep other others gone → AlikeBut group puts others
    → keep.bytes one_after ≡ keep.bytes other_after
