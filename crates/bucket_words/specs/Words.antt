-- What the buckets say of a patient and of a term.
use Rattle.definitions.specs.Basics.{ℕ, List, [], get_or}
use Rattle.bucket_words.specs.declared.PatientBucket.{PatientBucket}
use Rattle.bucket_words.specs.declared.TermMember.{TermMember}
use Rattle.bucket_words.specs.declared.TableTerm.{TableTerm}

-- ---- a patient: its count of beds, its first permitted bed and their end, the sum of its bucket's least numbers, and its bucket's first term

-- What stands where no patient is.
abbrev pub no_bucket : PatientBucket
no_bucket = record { beds = 0; first_bed = 0; bed_end = 0; least = 0; first_term = 0 }

abbrev pub beds_at : List PatientBucket → ℕ → ℕ
beds_at patients s = (get_or patients s no_bucket).beds

abbrev pub first_bed_at : List PatientBucket → ℕ → ℕ
first_bed_at patients s = (get_or patients s no_bucket).first_bed

abbrev pub bed_end_at : List PatientBucket → ℕ → ℕ
bed_end_at patients s = (get_or patients s no_bucket).bed_end

abbrev pub least_at : List PatientBucket → ℕ → ℕ
least_at patients s = (get_or patients s no_bucket).least

abbrev pub first_at : List PatientBucket → ℕ → ℕ
first_at patients s = (get_or patients s no_bucket).first_term

-- ---- a term: the start of its entries, the next term of the bucket, four members and their strides

-- What stands where no member and no term is.
abbrev pub no_member : TermMember
no_member = record { patient = 0; stride = 0 }

abbrev pub no_term : TableTerm
no_term = record { start = 0; next = 0; members = [] }

abbrev pub start_at : List TableTerm → ℕ → ℕ
start_at terms k = (get_or terms k no_term).start

abbrev pub next_at : List TableTerm → ℕ → ℕ
next_at terms k = (get_or terms k no_term).next

abbrev pub member_at : List TableTerm → ℕ → ℕ → ℕ
member_at terms k j = (get_or (get_or terms k no_term).members j no_member).patient

abbrev pub stride_at : List TableTerm → ℕ → ℕ → ℕ
stride_at terms k j = (get_or (get_or terms k no_term).members j no_member).stride
