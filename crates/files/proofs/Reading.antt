-- What reading part by part has taken of the bytes that a reader is known to have, and where in the buffer it stands. Assumes nothing.
use Rattle.std.proofs.Common.{◌≡◌, List, ℕ, ◌+◌, ◌≤◌, ◌++◌, length, take, ap, sym, ◌∙◌, append_assoc}
use Rattle.std.specs.Prelude.{None, Some}
use Rattle.std.specs.declared.option.Option.{Option}
use Rattle.std.specs.Io.KnownBytes.{Consumes}
use Rattle.std.proofs.Math.Seq.{take-append-add}
use Rattle.std.proofs.lemmas.List.{take-append-le, length-take-le}
use borrow.Rule.Slice.PartMut.{put_mid, post_of}

-- a part more
pub taken_more : (old mid new : Option (List ℕ)) (bs cs : List ℕ) → Consumes old mid bs → Consumes mid new cs → Consumes old new (bs ++ cs)
taken_more None mid new bs cs h g = tt
taken_more (Some xs) None new bs cs h g = absurd h
taken_more (Some xs) (Some ys) None bs cs h g = absurd g
taken_more (Some xs) (Some ys) (Some zs) bs cs h g = h ∙ ap (λ (l : List ℕ). bs ++ l) g ∙ sym (append_assoc bs cs zs)

-- it stands right behind what was read before
pub front_more : (done n k : ℕ) (buf part : List ℕ) → done ≤ length buf → n ≤ length part
    → take (done + n) (put_mid done k buf part) ≡ take done buf ++ take n part
front_more done n k buf part h g =
    ap (λ (m : ℕ). take (m + n) (put_mid done k buf part)) (sym (length-take-le done buf h))
    ∙ take-append-add (take done buf) (part ++ post_of done k buf) n
    ∙ ap (λ (l : List ℕ). take done buf ++ l) (take-append-le n part (post_of done k buf) g)
