-- Every promise can be kept, and whatever keeps it reads alike: an equation with what a definition gives leaves one outcome, where each number that refuses is a reason's.
-- Assumes nothing.
use mathlib.Core.Path.{◌≡◌, refl, sym, ap, ◌∙◌, subst}
use mathlib.Core.Bool.{Bool, true, false, ◌||◌}
use mathlib.Core.List.{List, [], ◌∷◌}
use mathlib.Core.Logic.{◌⊎◌, inl, inr}
use Prim.Native.Nat.{ℕ}
use lib.Dec.{T, eqb, eqb→eq}
use Rattle.std.specs.Prelude.{Result, Ok, Err}
use Rattle.graph.specs.Reading.{sets_in}
use Rattle.graph.specs.Reasons.{reason_number}
use Rattle.graph.specs.Refusing.{listed, refusal_order}
use Rattle.graph.specs.declared.Reason.{Reason}
use Rattle.graph.specs.declared.Reason.TheVariants as reasons
use Rattle.graph.specs.declared.Refusal.{Refusal}
use Rattle.seats.specs.Bytes.{written, too_short}
use Rattle.seats.specs.Bytes as bytes
use Rattle.seats.specs.Seats as seats
use Rattle.seats.specs.Calls.{accepted, answered, refused}
use Rattle.seats.specs.Calls as calls
use lib.ListN.{length}
use Rattle.graph.specs.Refusing as refusing
use Rattle.seats.specs.Seats.{fresh}
use Rattle.seats.specs.Images.{measured, unmeasured, measure_loaded, measure, image, load, loaded, not_loaded, image_verdict}
use Rattle.seats.specs.Images as images
use Rattle.seats.specs.Tape.{PartAnswer, fills, uncounted}
use Rattle.seats.specs.Demands.{One, OfCall, OfLoad, read_outcome, read_left}
use Rattle.seats.specs.Reading.{read_answer, read_filled, read_image, read_measured, read_part}
use Rattle.seats.specs.declared.State.{State}
use Rattle.seats.specs.Replies.{Answer}
use Rattle.seats.specs.declared.Reply.TheVariants as replies
use Rattle.seats.specs.declared.FeedError.{FeedError}
use Rattle.seats.specs.declared.FeedError.TheVariants as errors

-- What is read as y is there, and whatever reads as y reads alike.
pub one : {X Y : Type 0} (read : X → Y) {y : Y} (x : X) → read x ≡ y → One read (λ z. read z ≡ y)
one read x back = record { some = x; kept = back; alike = λ z e. e ∙ sym back }

-- ---- numbers that are a reason's
pub record Reasoned (n : ℕ) : Type 0 where
  pub reason : Reason
  pub number : reason_number reason ≡ n

-- Every number in a list is a reason's.
AllReasoned : List ℕ → Type 0
AllReasoned [] = Unit {0}
AllReasoned (m ∷ l) = Reasoned m × AllReasoned l

either : (b c : Bool) → T (b || c) → T b ⊎ T c
either true c t = inl tt
either false c t = inr t

listed_reasoned : (l : List ℕ) (n : ℕ) → AllReasoned l → T (listed l n) → Reasoned n
unfolding AllReasoned listed
listed_reasoned [] n h t = absurd t
listed_reasoned (m ∷ l) n h t = elim (either (eqb m n) (listed l n) t) [
  | inl q ↦ subst Reasoned (eqb→eq m n q) h.0
  | inr q ↦ listed_reasoned l n h.1 q
]

-- The number of a reason is a reason's.
by : (r : Reason) → Reasoned (reason_number r)
by r = record { reason = r; number = refl }

call_numbers : AllReasoned refusal_order
unfolding AllReasoned refusal_order
call_numbers = (by reasons.Malformed, (by reasons.UnknownNumber, (by reasons.EndRole, (by reasons.PairOfOne, (by reasons.EdgeToItself, (by reasons.RolePresent, (by reasons.RoleAbsent, (by reasons.AlreadySo, (by reasons.NotSo, (by reasons.NotDirect, (by reasons.RoleOfSeat, (by reasons.Circle, (by reasons.StillBelow, (by reasons.EmptyRole, (by reasons.TwinRole, (by reasons.PairInRole, (by reasons.PairInSeat, (by reasons.NotReached, (by reasons.ExcludedTogether, tt)))))))))))))))))))

pub call_reasoned : (n : ℕ) → OfCall n → Reasoned n
call_reasoned n = listed_reasoned refusal_order n call_numbers

pub load_reasoned : (n : ℕ) → OfLoad n → Reasoned n
load_reasoned n h = elim h [
  | inl q ↦ subst Reasoned (sym q) (by reasons.NoImage)
  | inr k ↦ elim k [
    | inl q ↦ subst Reasoned (sym q) (by reasons.BadEntry)
    | inr q ↦ subst Reasoned (sym q) (by reasons.UnsoundImage)
  ]
]

pub room_reasoned : (n : ℕ) → n ≡ 9 → Reasoned n
room_reasoned n q = subst Reasoned (sym q) (by reasons.BufferTooShort)

-- ---- answers, states and what filling answers, as the code holds them
pub Told : calls.Answer → Type 0
Told accepted = Unit {0}
Told (answered b) = Unit {0}
Told (refused n p) = Reasoned n

pub told : (a : calls.Answer) → ((n p : ℕ) → a ≡ refused n p → Reasoned n) → Told a
unfolding Told
told accepted h = tt
told (answered b) h = tt
told (refused n p) h = h n p refl

write_answer : (a : calls.Answer) → Told a → Answer
unfolding Told
write_answer accepted t = Ok replies.Accepted
write_answer (answered b) t = Ok (replies.Answered b)
write_answer (refused n p) t = Err (record { reason = t.reason; place = p })

read_written : (a : calls.Answer) (t : Told a) → read_answer (write_answer a t) ≡ a
unfolding read_answer write_answer Told
read_written accepted t = refl
read_written (answered b) t = refl
read_written (refused n p) t = ap (λ (m : ℕ). refused m p) t.number

write_state : seats.State → State
write_state s = record { roles = s.graph.roles; sets = s.graph.sets; conflicts = s.graph.conflicts; seats = s.seats }

pub one_outcome : (y : calls.Answer × seats.State) → Told y.0 → One read_outcome (λ z. read_outcome z ≡ y)
unfolding write_state sets_in
one_outcome y t = one read_outcome (write_answer y.0 t, write_state y.1) (ap (λ (a : calls.Answer). (a, y.1)) (read_written y.0 t))

unfoldable pub ToldFilled : bytes.Filled → Type 0
ToldFilled (written n) = Unit {0}
ToldFilled (too_short n p) = Reasoned n

pub told_filled : (f : bytes.Filled) → ((n p : ℕ) → f ≡ too_short n p → Reasoned n) → ToldFilled f
unfolding ToldFilled
told_filled (written n) h = tt
told_filled (too_short n p) h = h n p refl

write_filled : (f : bytes.Filled) → ToldFilled f → Result ℕ Refusal
unfolding ToldFilled
write_filled (written n) t = Ok n
write_filled (too_short n p) t = Err (record { reason = t.reason; place = p })

filled_written : (f : bytes.Filled) (t : ToldFilled f) → read_filled (write_filled f t) ≡ f
unfolding read_filled write_filled ToldFilled
filled_written (written n) t = refl
filled_written (too_short n p) t = ap (λ (m : ℕ). too_short m p) t.number

pub one_left : (y : bytes.Filled × List ℕ) → ToldFilled y.0 → One read_left (λ z. read_left z ≡ y)
one_left y t = one read_left (write_filled y.0 t, y.1) (ap (λ (f : bytes.Filled). (f, y.1)) (filled_written y.0 t))

pub ToldLoaded : images.Loaded → Type 0
ToldLoaded (loaded h) = Unit {0}
ToldLoaded (not_loaded n p) = Reasoned n

pub told_loaded : (x : images.Loaded) → ((n p : ℕ) → x ≡ not_loaded n p → Reasoned n) → ToldLoaded x
unfolding ToldLoaded
told_loaded (loaded h) f = tt
told_loaded (not_loaded n p) f = f n p refl

write_measured : (x : images.Loaded) → ToldLoaded x → Result ℕ Refusal
unfolding ToldLoaded
write_measured (loaded h) t = Ok (length (image h))
write_measured (not_loaded n p) t = Err (record { reason = t.reason; place = p })

measured_written : (x : images.Loaded) (t : ToldLoaded x) → read_measured (write_measured x t) ≡ measure_loaded x
unfolding read_measured write_measured measure_loaded ToldLoaded
measured_written (loaded h) t = refl
measured_written (not_loaded n p) t = ap (λ (m : ℕ). unmeasured m p) t.number

pub one_measured : (l : List ℕ) → ToldLoaded (load l) → One read_measured (λ m. read_measured m ≡ measure l)
unfolding measure
one_measured l t = one read_measured (write_measured (load l) t) (measured_written (load l) t)

write_loaded : (x : images.Loaded) → ToldLoaded x → Result State Refusal
unfolding ToldLoaded
write_loaded (loaded h) t = Ok (write_state h)
write_loaded (not_loaded n p) t = Err (record { reason = t.reason; place = p })

loaded_written : (x : images.Loaded) (t : ToldLoaded x) → read_image (write_loaded x t) ≡ image_verdict x
unfolding read_image image_verdict write_loaded write_state sets_in ToldLoaded
loaded_written (loaded h) t = refl
loaded_written (not_loaded n p) t = ap (λ (m : ℕ). (refusing.refused m p, fresh)) t.number

pub one_image : (x : images.Loaded) → ToldLoaded x → One read_image (λ r. read_image r ≡ image_verdict x)
one_image x t = one read_image (write_loaded x t) (loaded_written x t)

-- What feeding a part of a tape answers, as the code holds it.
unfoldable pub ToldPart : PartAnswer → Type 0
ToldPart (fills f) = ToldFilled f
ToldPart uncounted = Unit {0}

pub write_part : (a : PartAnswer) → ToldPart a → Result ℕ FeedError
unfolding ToldPart ToldFilled
write_part (fills (written n)) t = Ok n
write_part (fills (too_short n p)) t = Err (errors.TooShort (record { reason = t.reason; place = p }))
write_part uncounted t = Err errors.Uncounted

pub part_written : (a : PartAnswer) (t : ToldPart a) → read_part (write_part a t) ≡ a
unfolding read_part write_part ToldPart ToldFilled
part_written (fills (written n)) t = refl
part_written (fills (too_short n p)) t = ap (λ (m : ℕ). fills (too_short m p)) t.number
part_written uncounted t = refl
