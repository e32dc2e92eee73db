-- What the answers of an opening tell of the bytes.
use Rattle.std.proofs.Common.{◌≡◌, ℕ, ◌+◌, ◌<◌, ◌≤◌, ◌^◌, Bool, List, [], ◌∷◌, length, get_or, Option, Some, None, sym, ap, subst, arith, inl}
use Rattle.std.specs.Prelude.{IfSome, IsTrue}
use Rattle.jrn_file.specs.Journal.{journal_bytes}
use Rattle.jrn_file.specs.Opening.{ReadCause}
use Rattle.jrn_file.specs.Reading.{Reading, whole, cut, all_of, opened_of, size_of}
use Rattle.jrn_file.specs.declared.fault.OpenFault.{OpenFault}
use Rattle.jrn_file.specs.declared.fault.OpenFault.TheVariants as fault_of
use Rattle.jrn_codec.specs.Header.{IsHead}
use Rattle.day_model.specs.Chart.{Chart}
use Rattle.jrn_book.specs.declared.version.Version.{Version}
use Rattle.jrn_book.specs.declared.version.Version.TheVariants.{One, Two}
use Rattle.jrn_book.specs.Opening.{BookOpenCause, Finding, HasNoHead, IsFaultyAt, IsFoundIn, found_by}
use Rattle.jrn_book.specs.inner.Reading.{IsOfBytes, RefusesHead, RefusesRecords}
use Rattle.jrn_book.specs.Versions.{head_in, other}
use Rattle.jrn_file.proofs.laws.Sizes.{length-journal_bytes}
use Rattle.jrn_book.proofs.laws.Findings.{one_finding_in}

-- ---- headers

-- a record is no header where it is one of neither version
pub none_of_both : (v : Version) (bytes : List ℕ) → ((chart : Chart) → IsHead chart → bytes ≡ head_in v chart → ⊥)
    → ((chart : Chart) → IsHead chart → bytes ≡ head_in (other v) chart → ⊥) → HasNoHead (bytes ∷ [])
none_of_both One bytes this that One has = this has.0 has.1 has.2
none_of_both One bytes this that Two has = that has.0 has.1 has.2
none_of_both Two bytes this that Two has = this has.0 has.1 has.2
none_of_both Two bytes this that One has = that has.0 has.1 has.2

-- a refused header is a refusal of records that begin with it
pub refused_by_head : (v : Version) (head : List ℕ) (records : List (List ℕ)) (fault : OpenFault) → RefusesHead v head fault → RefusesRecords v (head ∷ records) fault
refused_by_head v head records fault_of.NotAJournal it = λ version has. it version has
refused_by_head v head records (fault_of.Version found) it = it
refused_by_head v head records (fault_of.Damaged at) it = absurd it
refused_by_head v head records (fault_of.DiskFault before after) it = absurd it
refused_by_head v head records fault_of.Memory it = tt

-- of records whose first this is
pub refused_first : (v : Version) (all : List (List ℕ)) (r : List ℕ) (fault : OpenFault) → 1 ≤ length all → r ≡ get_or all 0 r → RefusesHead v r fault → RefusesRecords v all fault
refused_first v [] r fault some is it = absurd (omega (arith, some))
refused_first v (head ∷ records) r fault some is it = refused_by_head v head records fault (subst (λ (x : List ℕ). RefusesHead v x fault) is it)

-- ---- bytes

-- where no record was read
pub told_by_cause : (v : Version) (old new : ℕ) (honest : Bool) (image : List ℕ) (fault : OpenFault) → ReadCause old new honest image fault → IsTrue honest
    → IfSome (found_by fault) (IsFoundIn v (opened_of image))
told_by_cause v old new honest image fault_of.NotAJournal cause told = subst (λ (r : Reading). HasNoHead (all_of r)) (sym (cause.1 told)) (λ version has. has)
told_by_cause v old new honest image (fault_of.Version found) cause told = absurd cause
told_by_cause v old new honest image (fault_of.Damaged at) cause told = absurd cause
told_by_cause v old new honest image (fault_of.DiskFault before after) cause told = tt
told_by_cause v old new honest image fault_of.Memory cause told = tt

pub counts_of : (old new : ℕ) (honest : Bool) (image : List ℕ) (fault : OpenFault) → ReadCause old new honest image fault → BookOpenCause old new fault
counts_of old new honest image fault_of.NotAJournal cause = cause.0
counts_of old new honest image (fault_of.Version found) cause = absurd cause
counts_of old new honest image (fault_of.Damaged at) cause = absurd cause
counts_of old new honest image (fault_of.DiskFault before after) cause = cause
counts_of old new honest image fault_of.Memory cause = cause

-- a refusal of what was read leaves the disk's count
pub counts_stay : (old new : ℕ) (fault : OpenFault) → new ≡ old → IsOfBytes fault → BookOpenCause old new fault
counts_stay old new fault_of.NotAJournal same is = same
counts_stay old new (fault_of.Version found) same is = same
counts_stay old new (fault_of.Damaged at) same is = same
counts_stay old new (fault_of.DiskFault before after) same is = absurd is
counts_stay old new fault_of.Memory same is = same

-- what is told is the only thing
pub only_told : (v : Version) (reading : Reading) (told : Option Finding) → IfSome told (IsFoundIn v reading) → (finding : Finding) → IsFoundIn v reading finding
    → IfSome told (λ found. found ≡ finding)
only_told v reading None is finding found = tt
only_told v reading (Some one) is finding found = one_finding_in v reading one finding is found

-- a refusal of records that end with a closed gate
pub refused_whole : (v : Version) (all : List (List ℕ)) (fault : OpenFault) → size_of all < 2 ^ 64 → RefusesRecords v all fault → IfSome (found_by fault) (IsFoundIn v (whole all))
refused_whole v all fault_of.NotAJournal small it = it
refused_whole v all (fault_of.Version found) small it = it
refused_whole v all (fault_of.Damaged at) small it = it small
refused_whole v all (fault_of.DiskFault before after) small it = absurd it
refused_whole v all fault_of.Memory small it = tt

-- and of records with damage after them
pub refused_cut : (v : Version) (all : List (List ℕ)) (end : ℕ) (fault : OpenFault) → size_of all < 2 ^ 64 → RefusesRecords v all fault → IfSome (found_by fault) (IsFoundIn v (cut all end))
refused_cut v all end fault_of.NotAJournal small it = it
refused_cut v all end (fault_of.Version found) small it = it
refused_cut v all end (fault_of.Damaged at) small it =
    let faulty : IsFaultyAt v (whole all) at = it small in
    record { chart = faulty.chart; history = faulty.history; good = faulty.good; fault = inl faulty.fault }
refused_cut v all end (fault_of.DiskFault before after) small it = absurd it
refused_cut v all end fault_of.Memory small it = tt

-- neither is of the disk
pub refused_by_bytes : (v : Version) (all : List (List ℕ)) (fault : OpenFault) → RefusesRecords v all fault → IsOfBytes fault
refused_by_bytes v all fault_of.NotAJournal it = tt
refused_by_bytes v all (fault_of.Version found) it = tt
refused_by_bytes v all (fault_of.Damaged at) it = tt
refused_by_bytes v all (fault_of.DiskFault before after) it = it
refused_by_bytes v all fault_of.Memory it = tt

-- the records of an open file are short enough
pub few_bytes : (head : List ℕ) (records all : List (List ℕ)) (end : ℕ) → all ≡ head ∷ records → end + 1 ≡ length (journal_bytes head records) → end < 2 ^ 64 → size_of all < 2 ^ 64
few_bytes head records all end is place small = omega (arith, place, small, length-journal_bytes head records, ap size_of is)
