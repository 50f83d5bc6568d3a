mod GlobalHeap
mod Pointers
