-- No second result fits the clauses. Assumes nothing.
use seplogic.Ra.Ura.{Ura}
use base.Logic.{SProp, ent, sep, via, fst∗, snd∗}
use contract.Monad.{fact, fact_i, fact_use}
use Rattle.demands.specs.UniqueClauses.{ReadDeterminedIn, DirectoryDeterminedIn}
use Rattle.demands.proofs.Unique.{answered_third}

-- what follows from the facts of two pairs of clauses
pub both_told : {M : Type 1} (𝓤 : Ura M) (φ φ' ψ ψ' χ : Type 0) → (φ × φ' → ψ × ψ' → χ)
    → ent 𝓤 (sep 𝓤 (sep 𝓤 (fact 𝓤 φ) (fact 𝓤 φ')) (sep 𝓤 (fact 𝓤 ψ) (fact 𝓤 ψ'))) (fact 𝓤 χ)
both_told {M} 𝓤 φ φ' ψ ψ' χ f =
    let A : SProp 𝓤 = sep 𝓤 (fact 𝓤 φ) (fact 𝓤 φ') in
    let B : SProp 𝓤 = sep 𝓤 (fact 𝓤 ψ) (fact 𝓤 ψ') in
    let P : SProp 𝓤 = sep 𝓤 A B in
    fact_use 𝓤 φ (via 𝓤 A (fst∗ 𝓤 A B) (fst∗ 𝓤 (fact 𝓤 φ) (fact 𝓤 φ'))) (λ a.
    fact_use 𝓤 φ' (via 𝓤 A (fst∗ 𝓤 A B) (snd∗ 𝓤 (fact 𝓤 φ) (fact 𝓤 φ'))) (λ b.
    fact_use 𝓤 ψ (via 𝓤 B (snd∗ 𝓤 A B) (fst∗ 𝓤 (fact 𝓤 ψ) (fact 𝓤 ψ'))) (λ c.
    fact_use 𝓤 ψ' (via 𝓤 B (snd∗ 𝓤 A B) (snd∗ 𝓤 (fact 𝓤 ψ) (fact 𝓤 ψ'))) (λ d.
    fact_i 𝓤 χ P (f (a, b) (c, d))))))

pub read_determined_in : {M : Type 1} → ReadDeterminedIn M
read_determined_in {M} 𝓤 𝓛 mem run κs a g z z' left left' = both_told 𝓤 _ _ _ _ _ (λ p q. answered_third p q)

-- what follows from two facts
pub told_twice : {M : Type 1} (𝓤 : Ura M) (φ ψ χ : Type 0) → (φ → ψ → χ) → ent 𝓤 (sep 𝓤 (fact 𝓤 φ) (fact 𝓤 ψ)) (fact 𝓤 χ)
told_twice {M} 𝓤 φ ψ χ f =
    let P : SProp 𝓤 = sep 𝓤 (fact 𝓤 φ) (fact 𝓤 ψ) in
    fact_use 𝓤 φ (fst∗ 𝓤 (fact 𝓤 φ) (fact 𝓤 ψ)) (λ a.
    fact_use 𝓤 ψ (snd∗ 𝓤 (fact 𝓤 φ) (fact 𝓤 ψ)) (λ b.
    fact_i 𝓤 χ P (f a b)))

pub directory_determined_in : {M : Type 1} → DirectoryDeterminedIn M
directory_determined_in {M} 𝓤 𝓛 mem run κs a g z z' left left' = told_twice 𝓤 _ _ _ (λ p q. answered_third p q)
