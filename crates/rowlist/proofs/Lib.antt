-- The laws of what is printed, for the proofs of the program's functions.
mod Printed
