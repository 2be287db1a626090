-- What follows of an answer that is Ok.
use Rattle.std.specs.Prelude.{Result, Ok, Err, IfOk, OnOk}

pub ok_all : {T E : Type 0} {P : T → Type 0} {A : Type 0} (r : Result T E) → IfOk r P → ((x : T) → P x → A) → OnOk r A
ok_all (Ok x) p f = f x p
ok_all (Err e) p f = tt

pub ok_both : {T E : Type 0} {A B C : Type 0} (r : Result T E) → OnOk r A → OnOk r B → (A → B → C) → OnOk r C
ok_both (Ok x) a b f = f a b
ok_both (Err e) a b f = tt

pub ok_always : {T E : Type 0} {A : Type 0} (r : Result T E) → A → OnOk r A
ok_always (Ok x) a = a
ok_always (Err e) a = tt
