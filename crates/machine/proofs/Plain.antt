-- Noninterference, second half: where the labelled run does not end with LEAK, the plain run is the same run.
use Prim.Native.Nat.{ℕ, zero, suc}
use mathlib.Core.Path.{◌≡◌, refl}
use mathlib.Core.Bool.{Bool, true, false}
use mathlib.Core.List.{List, [], ◌∷◌}
use lib.Seq.{sets}
use lib.Dec.{ltb, eqb}
use Rattle.word.specs.Sum.{tabulate}
use Rattle.word.specs.Word.{part}
use Rattle.operation.specs.declared.layout.Varnode.{Varnode}
use Rattle.operation.specs.Layout.{operation_count}
use Rattle.machine.specs.Program.{Program}
use Rattle.machine.specs.Memory.{Memory, space_of, with_space, bytes_at, written}
use Rattle.machine.specs.Effect.{Operation, Kind, operation_at, any_secret, secret}
use Rattle.machine.specs.Run.{Decision, Position, Ended, Stepped, decided, checked, ended, ending_of, apply_decision, execute_as, execute, stepped, continued, run}
use Rattle.machine.specs.Calls.{unlabelled}
use Rattle.machine.proofs.Cases.{either_equal, either₂}

-- The same ending, value, position and bytes.
pub record SameRun (r q : Ended) : Type 0 where
  pub ending : r.ending ≡ q.ending
  pub value : r.value ≡ q.value
  pub position : r.position ≡ q.position
  pub memory : r.memory ≡ q.memory

-- ---- no labels: all is public, and nothing is written

unlabelled_space : (space : ℕ) → space_of unlabelled space ≡ []
unfolding unlabelled space_of
unlabelled_space space = either_equal (eqb space 2) refl (either_equal (eqb space 3) refl (either_equal (eqb space 4) refl refl))

unlabelled_with : (space : ℕ) → with_space unlabelled space [] ≡ unlabelled
unfolding unlabelled with_space
unlabelled_with space = either_equal (eqb space 2) refl (either_equal (eqb space 3) refl (either_equal (eqb space 4) refl refl))

pub none_secret : (n : ℕ) (f : ℕ → ℕ) → ((i : ℕ) → f i ≡ 0) → any_secret (tabulate n f) ≡ false
unfolding tabulate any_secret
none_secret zero f h = refl
none_secret (suc n) f h = rw (h 0) (none_secret n _ (λ i. h (suc i)))

pub nothing_secret : (vs : List Varnode) → secret unlabelled vs ≡ false
unfolding secret bytes_at part
nothing_secret [] = refl
nothing_secret (v ∷ vs) = rw (unlabelled_space, none_secret v.size (λ i. 0) (λ i. refl)) (nothing_secret vs)

sets-nil : (i : ℕ) (xs : List ℕ) → sets [] i xs ≡ []
sets-nil i [] = refl
sets-nil i (x ∷ xs) = sets-nil (suc i) xs

pub nothing_written : (v : Varnode) (xs : List ℕ) → written unlabelled v xs ≡ unlabelled
unfolding written
nothing_written v xs = rw (unlabelled_space, sets-nil) (unlabelled_with v.space)

-- ---- the run

pub data SameSteps : Stepped → Stepped → Type 0 where
  leaks : {a : Stepped} {q : Ended} → q.ending ≡ 31 → SameSteps a (Stepped.halted q)
  halts : {r q : Ended} → SameRun r q → SameSteps (Stepped.halted r) (Stepped.halted q)
  goes : {at : Position} {labels m : Memory} → SameSteps (Stepped.going at unlabelled m) (Stepped.going at labels m)

module _ (program : Program) (labels m : Memory) where
  ended_same : (e v : ℕ) (at : Position) → SameRun (ended e v at unlabelled m) (ended e v at labels m)
  unfolding ended
  ended_same e v at = record { ending = refl; value = refl; position = refl; memory = refl }

  applied_same : (k : Kind) (op : Operation) (at : Position) (x : ℕ) (d : Decision)
      → SameSteps (apply_decision program k op at unlabelled m x d) (apply_decision program k op at labels m x d)
  unfolding apply_decision
  applied_same k op at x (Decision.stop e) = halts (ended_same _ 0 at)
  applied_same k op at x (Decision.exit words d) = halts (ended_same 1 d _)
  applied_same k op at x (Decision.next words i) = rw nothing_written goes

  decided_same : (t : Bool) (k : Kind) (op : Operation) (at : Position) (i extent room x : ℕ)
      → SameSteps (apply_decision program k op at unlabelled m x (decided false k op i extent room x)) (apply_decision program k op at labels m x (decided t k op i extent room x))
  unfolding decided apply_decision ended ending_of
  decided_same true k op at i extent room x = leaks refl
  decided_same false k op at i extent room x = applied_same k op at x (checked k op i extent room x)

  pub stepped_same : (at : Position) → SameSteps (stepped program at unlabelled m) (stepped program at labels m)
  unfolding stepped execute execute_as
  stepped_same at =
      rw nothing_secret
      (either₂ SameSteps (ltb at.index (operation_count program.list)) _ _ _ _ (decided_same _ _ (operation_at program.list at.index) at _ _ _ _) (halts (ended_same 0 0 at)))

continued_same : (f : Position → Memory → Memory → Ended)
    → ((at : Position) (labels m : Memory) → ((f at labels m).ending ≡ 31 → ⊥) → SameRun (f at unlabelled m) (f at labels m))
    → {a b : Stepped} → SameSteps a b → ((continued f b).ending ≡ 31 → ⊥) → SameRun (continued f a) (continued f b)
unfolding continued
continued_same f h (leaks e) ne = absurd (ne e)
continued_same f h (halts t) ne = t
continued_same f h (goes {at} {labels} {m}) ne = h at labels m ne

pub run_same : (program : Program) (budget : ℕ) (at : Position) (labels m : Memory)
    → ((run program budget at labels m).ending ≡ 31 → ⊥) → SameRun (run program budget at unlabelled m) (run program budget at labels m)
unfolding run
run_same program zero at labels m ne = ended_same program labels m _ 0 at
run_same program (suc budget) at labels m ne =
    continued_same _ (λ at' l m' ne'. run_same program budget at' l m' ne') (stepped_same program labels m at) ne
