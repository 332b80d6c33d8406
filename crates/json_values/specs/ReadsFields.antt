-- What the reading of objects answers.
use Rattle.std.specs.Prelude.{◌≡◌, Bool, true, false, Option, Some, None, Result, Ok, Err, ⊤}
use Rattle.json_values.specs.declared.error.ReadError.{ReadError}
use Rattle.json_values.specs.Failures.{IsUnreadable}
use Rattle.json_values.specs.Form.{given}

-- it has the fields of its form, and is unreadable only where it has not
abbrev pub ReadsFields : Bool → Result ⊤ ReadError → Type 0
ReadsFields has (Ok x) = has ≡ true
ReadsFields has (Err e) = IsUnreadable e → has ≡ false

-- all that some fields stand for, if each stands for something
abbrev pub two : {A B : Type 0} → Option A → Option B → Option (A × B)
two o p = given o (λ x. given p (λ y. Some (x, y)))

abbrev pub three : {A B C : Type 0} → Option A → Option B → Option C → Option (A × B × C)
three o p q = given o (λ x. given p (λ y. given q (λ z. Some (x, y, z))))

abbrev pub four : {A B C D : Type 0} → Option A → Option B → Option C → Option D → Option (A × B × C × D)
four o p q r = given o (λ x. given p (λ y. given q (λ z. given r (λ w. Some (x, y, z, w)))))

-- Each field stands for its part of what is read; unreadable are they only where one stands for nothing.
abbrev pub ReadsTwo : {A B : Type 0} → Option A → Option B → Result (A × B) ReadError → Type 0
ReadsTwo o p (Ok z) = (o ≡ Some z.0) × (p ≡ Some z.1)
ReadsTwo o p (Err e) = IsUnreadable e → two o p ≡ None

abbrev pub ReadsThree : {A B C : Type 0} → Option A → Option B → Option C → Result (A × B × C) ReadError → Type 0
ReadsThree o p q (Ok z) = (o ≡ Some z.0) × (p ≡ Some z.1) × (q ≡ Some z.2)
ReadsThree o p q (Err e) = IsUnreadable e → three o p q ≡ None

abbrev pub ReadsFour : {A B C D : Type 0} → Option A → Option B → Option C → Option D → Result (A × B × C × D) ReadError → Type 0
ReadsFour o p q r (Ok z) = (o ≡ Some z.0) × (p ≡ Some z.1) × (q ≡ Some z.2) × (r ≡ Some z.3)
ReadsFour o p q r (Err e) = IsUnreadable e → four o p q r ≡ None
